use Rattle.std.proofs.Common.{◌≡◌, take}
use Rattle.std.specs.List.{flat_map}
use Rattle.soc_io.specs.Printing.{PrintsMore}
use Rattle.soc_top.specs.Check.{verdict_line}
use Rattle.soc_top.proofs.check.put_verdicts.Given as goal

abbrev pub invariant-loop-name : goal.invariant-loop-name
invariant-loop-name g l =
    PrintsMore g.S.Sink.written g.S.Sink.faults l.fn.printer l.printer
    (flat_map (verdict_line l.catalog) (take l.name-index l.names))
    × (l.printer.sink.ghost_name ≡ l.fn.printer.sink.ghost_name)
