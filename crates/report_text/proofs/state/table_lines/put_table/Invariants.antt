use Rattle.std.proofs.Common.{◌≡◌}
use Rattle.std.specs.List.{flat_map, range_with_len}
use Rattle.soc_io.specs.Printing.{PrintsMore}
use Rattle.report_text.specs.inner.Places.{place_text}
use Rattle.report_text.proofs.state.table_lines.put_table.Given as goal

abbrev pub invariant-loop-slot : goal.invariant-loop-slot
invariant-loop-slot g l =
    PrintsMore g.S.Sink.written g.S.Sink.faults l.fn.printer l.printer
    (flat_map (place_text l.tile l.table l.row) (range_with_len 0 l.slot))
    × (l.printer.sink.ghost_name ≡ l.fn.printer.sink.ghost_name)
