use Rattle.std.proofs.Common.{◌≡◌, take}
use Rattle.std.specs.List.{flat_map}
use Rattle.report_text.specs.Commands.{entry_text}
use Rattle.soc_io.specs.Printing.{PrintsMore}
use Rattle.report_text.proofs.entries.put_history.Given as goal

abbrev pub invariant-loop-entry : goal.invariant-loop-entry
invariant-loop-entry g l =
    PrintsMore g.S.Sink.written g.S.Sink.faults l.fn.printer l.printer
    (flat_map (entry_text l.setup) (take l.entry-index l.history))
    × (l.printer.sink.ghost_name ≡ l.fn.printer.sink.ghost_name)
