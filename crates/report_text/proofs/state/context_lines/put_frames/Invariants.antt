use Rattle.std.proofs.Common.{◌≡◌}
use Rattle.std.specs.List.{flat_map, range_with_len}
use Rattle.soc_io.specs.Printing.{PrintsMore}
use Rattle.report_text.specs.State.{frame_line}
use Rattle.report_text.proofs.state.context_lines.put_frames.Given as goal

abbrev pub invariant-loop-frame : goal.invariant-loop-frame
invariant-loop-frame g l =
    PrintsMore g.S.Sink.written g.S.Sink.faults l.fn.printer l.printer
    (flat_map (frame_line l.tile) (range_with_len 0 l.frame))
    × (l.printer.sink.ghost_name ≡ l.fn.printer.sink.ghost_name)
