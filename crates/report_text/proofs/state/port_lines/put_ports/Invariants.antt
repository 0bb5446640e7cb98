use Rattle.std.proofs.Common.{◌≡◌, get_or}
use Rattle.std.specs.List.{flat_map, range_with_len}
use Rattle.soc_io.specs.Printing.{PrintsMore}
use Rattle.tile_mmio.specs.Ports.{no_port}
use Rattle.report_text.specs.State.{port_text}
use Rattle.report_text.proofs.state.port_lines.put_ports.Given as goal

abbrev pub invariant-loop-number : goal.invariant-loop-number
invariant-loop-number g l =
    PrintsMore g.S.Sink.written g.S.Sink.faults l.fn.printer l.printer
    (flat_map (λ number. port_text l.tile.number number (get_or l.tile.ports number no_port)) (range_with_len 0 l.number))
    × (l.printer.sink.ghost_name ≡ l.fn.printer.sink.ghost_name)
