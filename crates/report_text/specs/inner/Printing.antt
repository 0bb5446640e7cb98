-- What a function prints of which only a fact is told.
use Rattle.std.specs.Prelude.{ℕ, List, Option}
use Rattle.std.specs.List.{concat}
use Rattle.bundle_model.specs.declared.world.Grant.{Grant}
use Rattle.soc_io.specs.declared.printer.Printer.{Printer}
use Rattle.soc_io.specs.Printing.{PrintsMore}
use Rattle.vep_manager.specs.declared.setup.Setup.{Setup}
use Rattle.report_text.specs.Report.{AreAppTexts}

-- a call printed one text more of which this is true
abbrev pub PrintsSome : {S : Type 0} → (S → Option (List ℕ)) → (S → ℕ) → Printer S → Printer S → (List ℕ → Type 0)
    → Type 0
PrintsSome written faults old new Fact = (text : List ℕ) × Fact text × PrintsMore written faults old new text

-- a call printed the applications of these grants, one behind the other
abbrev pub PrintsApps : {S : Type 0} → (S → Option (List ℕ)) → (S → ℕ) → Printer S → Printer S → Setup → List Grant
    → Type 0
PrintsApps written faults old new setup grants =
    (texts : List (List ℕ)) × AreAppTexts setup grants texts × PrintsMore written faults old new (concat texts)
