use Rattle.std.proofs.Common.{◌≡◌, ℕ, ◌<◌, map, slice_get, Some, IsTrue}
use Rattle.tile_core.specs.Station.{station_state}
use Rattle.serial_run.specs.declared.hops.Hop.{Hop}
use Rattle.serial_run.specs.inner.Hops.{AtEnds, AllAtEnds, StandInLine}
use Rattle.serial_run.specs.inner.Carrying.{IsCarried}
use Rattle.serial_run.proofs.carrying.carry_all.Given as goal

abbrev pub invariant-loop-number : goal.invariant-loop-number
invariant-loop-number l =
    (map station_state l.stations ≡ map station_state l.fn.stations)
    × (IsTrue l.in_line → AllAtEnds StandInLine l.stations l.hops)
    × ((k : ℕ) (hop : Hop) → k < l.number → slice_get l.hops k ≡ Some hop → AtEnds IsCarried l.stations hop)
