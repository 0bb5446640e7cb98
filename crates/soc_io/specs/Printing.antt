-- What functions over any sink print. `written` and `faults` are what the sink's trait tells of it.
use Rattle.std.specs.Prelude.{ℕ, List, ◌++◌, Option, Result}
use Rattle.soc_io.specs.declared.printer.Printer.{Printer}
use Rattle.soc_io.specs.declared.sink.SinkFault.{SinkFault}
use Rattle.soc_io.specs.Writing.{Writes, Printed}

-- a call that answered `result` wrote a text to a sink, which was `old` before and is `new` after
abbrev pub WritesText : {S : Type 0} → (S → Option (List ℕ)) → (S → ℕ) → S → S → List ℕ → Result Unit SinkFault → Type 0
WritesText written faults old new text result = Writes text (written old) (faults old) (written new) (faults new) result

-- a printer has printed a text to its sink, which was `sink` before, or a front of the text where a write
-- failed
abbrev pub HasPrinted : {S : Type 0} → (S → Option (List ℕ)) → (S → ℕ) → S → Printer S → List ℕ → Type 0
HasPrinted written faults sink printer text =
    Printed text (written sink) (faults sink) (written printer.sink.now) (faults printer.sink.now) printer.failed

-- a call printed more: whatever text the printer had printed before, behind it now stands this one too
abbrev pub PrintsMore : {S : Type 0} → (S → Option (List ℕ)) → (S → ℕ) → Printer S → Printer S → List ℕ → Type 0
PrintsMore written faults old new more =
    (text : List ℕ) (held : Option (List ℕ)) (before : ℕ)
    → Printed text held before (written old.sink.now) (faults old.sink.now) old.failed
    → Printed (text ++ more) held before (written new.sink.now) (faults new.sink.now) new.failed
