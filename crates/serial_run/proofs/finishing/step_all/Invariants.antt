use Rattle.std.proofs.Common.{◌≡◌, length, take, drop}
use Rattle.std.specs.List.{AllZip}
use Rattle.serial_run.specs.inner.Going.{Steps}
use Rattle.serial_run.proofs.finishing.step_all.Given as goal

abbrev pub invariant-loop-station : goal.invariant-loop-station
invariant-loop-station l =
    (length l.stations ≡ length l.fn.stations)
    × (drop l.station-index l.stations ≡ drop l.station-index l.fn.stations)
    × AllZip (Steps l.world l.schedule l.slot) (take l.station-index l.fn.stations) (take l.station-index l.stations)
