-- Stations that go on to one slot on one thread.
use Rattle.std.specs.Prelude.{◌≡◌, ℕ, ◌+◌, ◌<◌, ◌≤◌, ◌==◌, if◌then◌else◌, List, length, map, All}
use Rattle.bundle_model.specs.declared.world.World.{World}
use Rattle.bundle_model.specs.declared.world.LoadName.{LoadName}
use Rattle.bundle_model.specs.declared.world.Grant.{Grant}
use Rattle.bundle_model.specs.declared.world.Schedule.{Schedule}
use Rattle.tile_core.specs.declared.station.Station.{Station}
use Rattle.tile_core.specs.Fit.{IsUnderway}
use Rattle.tile_core.specs.Station.{station_state, KeepsEnds, HasRun, HaveRun}
use Rattle.tile_core.specs.Turns.{KeepsLines}
use Rattle.serial_run.specs.declared.hops.Hop.{Hop}
use Rattle.serial_run.specs.inner.Hops.{AreHops, AllAtEnds, all_ends}
use Rattle.serial_run.specs.inner.Carrying.{IsCarried}

-- the slot of a tile after its turn at a slot: the next one, if it was at that slot
abbrev pub raised : ℕ → ℕ → ℕ
raised slot at = if at == slot then at + 1 else at

-- a station from before its turn at a slot to after it
pub record Steps (world : World) (schedule : Schedule) (slot : ℕ) (old new : Station) : Type 0 where
  pub ends : KeepsEnds (station_state old) (station_state new)
  pub lines : KeepsLines old new
  pub underway : IsUnderway world schedule new.tile
  pub run : (loads : List LoadName) → HasRun world loads schedule.grants.items (station_state old)
      → HasRun world loads schedule.grants.items (station_state new)
  pub at : new.tile.at ≡ raised slot old.tile.at

-- Stations on their way: each has run by itself and can go on, none is before the slot, and the next flit of
-- each link was carried.
pub record AreGoing (world : World) (schedule : Schedule) (hops : List Hop) (slot : ℕ) (stations : List Station)
    : Type 0 where
  pub loads : List LoadName
  pub run : HaveRun world loads schedule.grants.items (map station_state stations)
  pub underway : All (λ station. IsUnderway world schedule station.tile) stations
  pub least : All (λ station. slot ≤ station.tile.at) stations
  pub places : AreHops (all_ends (map station_state stations)) world.platform.links hops
  pub as_many : length hops ≡ length world.platform.links
  pub carried : AllAtEnds IsCarried stations hops

-- no tile is after a slot
abbrev pub AreWithin : ℕ → List Station → Type 0
AreWithin until stations = All (λ station. station.tile.at ≤ until) stations

-- stations that had run by themselves have still
abbrev pub KeepRuns : World → List Grant → List Station → List Station → Type 0
KeepRuns world grants old new =
    (loads : List LoadName) → HaveRun world loads grants (map station_state old)
    → HaveRun world loads grants (map station_state new)

-- no tile that is not after a later slot is so then
abbrev pub StayWithin : ℕ → List Station → List Station → Type 0
StayWithin slot old new = (until : ℕ) → slot < until → AreWithin until old → AreWithin until new
