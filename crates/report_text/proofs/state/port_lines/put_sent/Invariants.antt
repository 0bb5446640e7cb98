use Rattle.std.proofs.Common.{◌≡◌, take, codes}
use Rattle.std.specs.List.{flat_map}
use Rattle.soc_io.specs.Printing.{PrintsMore}
use Rattle.report_text.specs.State.{queued_line}
use Rattle.report_text.proofs.state.port_lines.put_sent.Given as goal

abbrev pub invariant-loop-place : goal.invariant-loop-place
invariant-loop-place g l =
    PrintsMore g.S.Sink.written g.S.Sink.faults l.fn.printer l.printer
    (flat_map (queued_line (codes "sendword") l.tile l.number) (take l.place l.port.port.send))
    × (l.printer.sink.ghost_name ≡ l.fn.printer.sink.ghost_name)
