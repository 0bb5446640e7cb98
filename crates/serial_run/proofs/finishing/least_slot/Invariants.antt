use Rattle.std.proofs.Common.{◌≤◌, take, All}
use Rattle.serial_run.proofs.finishing.least_slot.Given as goal

abbrev pub invariant-loop-station : goal.invariant-loop-station
invariant-loop-station l =
    (l.least ≤ l.until) × All (λ station. l.least ≤ station.tile.at) (take l.station-index l.stations)
