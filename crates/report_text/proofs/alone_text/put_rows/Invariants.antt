use Rattle.std.proofs.Common.{◌≡◌, take}
use Rattle.std.specs.List.{flat_map}
use Rattle.report_text.specs.Rows.{row_text}
use Rattle.soc_io.specs.Printing.{PrintsMore}
use Rattle.report_text.proofs.alone_text.put_rows.Given as goal

abbrev pub invariant-loop-row : goal.invariant-loop-row
invariant-loop-row g l =
    PrintsMore g.S.Sink.written g.S.Sink.faults l.fn.printer l.printer (flat_map row_text (take l.row-index l.rows))
    × (l.printer.sink.ghost_name ≡ l.fn.printer.sink.ghost_name)
