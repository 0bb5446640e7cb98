use Rattle.std.proofs.Common.{◌≡◌, take}
use Rattle.std.specs.List.{flat_map}
use Rattle.soc_io.specs.Printing.{PrintsMore}
use Rattle.report_text.specs.State.{tile_text}
use Rattle.report_text.proofs.state.put_state.Given as goal

abbrev pub invariant-loop-station : goal.invariant-loop-station
invariant-loop-station g l =
    PrintsMore g.S.Sink.written g.S.Sink.faults l.fn.printer l.printer
    (flat_map (λ station. tile_text l.platform station.tile) (take l.station-index l.stations))
    × (l.printer.sink.ghost_name ≡ l.fn.printer.sink.ghost_name)
