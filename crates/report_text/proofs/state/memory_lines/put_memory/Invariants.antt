use Rattle.std.proofs.Common.{◌≡◌}
use Rattle.std.specs.List.{flat_map, range_with_len}
use Rattle.soc_io.specs.Printing.{PrintsMore}
use Rattle.report_text.specs.State.{memory_line}
use Rattle.report_text.proofs.state.memory_lines.put_memory.Given as goal

abbrev pub invariant-loop-row : goal.invariant-loop-row
invariant-loop-row g l =
    PrintsMore g.S.Sink.written g.S.Sink.faults l.fn.printer l.printer
    (flat_map (memory_line l.tile) (range_with_len 0 l.row))
    × (l.printer.sink.ghost_name ≡ l.fn.printer.sink.ghost_name)
