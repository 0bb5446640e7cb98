use Rattle.std.proofs.Common.{◌≡◌, take}
use Rattle.std.specs.List.{flat_map}
use Rattle.report_text.specs.inner.Logs.{line_on}
use Rattle.soc_io.specs.Printing.{PrintsMore}
use Rattle.report_text.proofs.applications.put_part_lines.Given as goal

abbrev pub invariant-loop-part : goal.invariant-loop-part
invariant-loop-part g l =
    PrintsMore g.S.Sink.written g.S.Sink.faults l.fn.printer l.printer
    (flat_map (line_on l.stations l.label) (take l.part-index l.parts))
    × (l.printer.sink.ghost_name ≡ l.fn.printer.sink.ghost_name)
