use Rattle.std.proofs.Common.{◌≡◌}
use Rattle.std.specs.List.{flat_map, range_with_len}
use Rattle.soc_io.specs.Printing.{PrintsMore}
use Rattle.report_text.specs.State.{carried_line}
use Rattle.report_text.proofs.state.put_carried.Given as goal

abbrev pub invariant-loop-out : goal.invariant-loop-out
invariant-loop-out g l =
    PrintsMore g.S.Sink.written g.S.Sink.faults l.fn.printer l.printer
    (flat_map (carried_line l.platform l.tile) (range_with_len 0 l.out))
    × (l.printer.sink.ghost_name ≡ l.fn.printer.sink.ghost_name)
