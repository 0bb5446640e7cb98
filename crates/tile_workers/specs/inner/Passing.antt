-- What one pass over its stations makes of them, and how the things of a worker stand between two passes.
use Rattle.std.specs.Prelude.{◌≡◌, ℕ, ◌+◌, ◌-◌, ◌^◌, ◌<◌, ◌≤◌, nat_lt, min, ◌⊎◌, Bool, true, false, List, sum_by, All, MatchBool}
use Rattle.std.specs.List.{AllZip, list_any}
use Rattle.bundle_model.specs.declared.world.World.{World}
use Rattle.bundle_model.specs.declared.world.LoadName.{LoadName}
use Rattle.bundle_model.specs.declared.world.Schedule.{Schedule}
use Rattle.vep_manager.specs.declared.setup.Setup.{Setup}
use Rattle.vep_manager.specs.declared.reply.Entry.{Entry}
use Rattle.vep_manager.specs.Legal.{IsLegal}
use Rattle.tile_core.specs.declared.station.Station.{Station}
use Rattle.tile_core.specs.Station.{station_state, tries_of, still_of, KeepsEnds, HasRun}
use Rattle.tile_workers.specs.Work.{IsBehind, AreWithin, IsHeldUp}

-- whether some tile is below a slot
abbrev pub is_below : ℕ → List Station → Bool
is_below until stations = list_any (λ station. nat_lt station.tile.at until) stations

-- how many slots the tiles are below a slot, all together
abbrev pub slots_left : ℕ → List Station → ℕ
slots_left until stations = sum_by (λ station. until - station.tile.at) stations

-- a station did a slot below the horizon
pub record Goes (schedule : Schedule) (before after : Station) : Type 0 where
  pub below : before.tile.at < schedule.horizon
  pub at : after.tile.at ≡ before.tile.at + 1

-- a station was tried once more in vain, and something keeps it from its next slot
pub record Waits (schedule : Schedule) (before after : Station) : Type 0 where
  pub at : after.tile.at ≡ before.tile.at
  pub still : still_of after ≡ min (still_of before + 1) (2 ^ 64 - 1)
  pub held_up : IsHeldUp schedule after

-- a station that was tried once: it is the same one and has run on by itself, and it went on or not
pub record IsTried (world : World) (schedule : Schedule) (moved : Bool) (before after : Station) : Type 0 where
  pub ends : KeepsEnds (station_state before) (station_state after)
  pub run : (loads : List LoadName) → HasRun world loads schedule.grants.items (station_state before)
      → HasRun world loads schedule.grants.items (station_state after)
  pub in_range : tries_of before ≤ 2 ^ 64 - 1
  pub tries : tries_of after ≡ min (tries_of before + 1) (2 ^ 64 - 1)
  pub answer : MatchBool moved (Goes schedule before after) (Waits schedule before after)

-- a station below the slot is tried, and any other is let be
abbrev pub IsPassed : World → Schedule → ℕ → Bool → Station → Station → Type 0
IsPassed world schedule until moved before after =
    ((before.tile.at < until) × IsTried world schedule moved before after)
    ⊎ ((until ≤ before.tile.at) × (after ≡ before) × (moved ≡ false))

-- a pass came to each station, whether it went on or not
abbrev pub ArePassed : World → Schedule → ℕ → List Station → List Station → Type 0
ArePassed world schedule until old new =
    AllZip (λ before after. (moved : Bool) × IsPassed world schedule until moved before after) old new

-- a pass over stations: where one of them went on, fewer slots are left, and else none did
pub record IsPass (world : World) (schedule : Schedule) (until : ℕ) (moved : Bool)
    (old new : List Station) : Type 0 where
  pub each : ArePassed world schedule until old new
  pub no_more : slots_left until new ≤ slots_left until old
  pub fewer : moved ≡ true → slots_left until new < slots_left until old
  pub none : moved ≡ false → AllZip (IsPassed world schedule until false) old new

-- a station that was come to, once or more: it is the same one, and neither its slot nor its count of tries fell
pub record HasGoneOn (before after : Station) : Type 0 where
  pub ends : KeepsEnds (station_state before) (station_state after)
  pub at : before.tile.at ≤ after.tile.at
  pub tries : tries_of before ≤ tries_of after

-- passes over stations, as long as one of them went on: no more slots are left
pub record HaveGoneOn (until : ℕ) (old new : List Station) : Type 0 where
  pub each : AllZip HasGoneOn old new
  pub no_more : slots_left until new ≤ slots_left until old

-- the passes of a turn: the first, and more where one went on in it
pub record IsTurnOf (world : World) (schedule : Schedule) (until : ℕ) (moved : Bool)
    (old new : List Station) : Type 0 where
  pub each : AllZip HasGoneOn old new
  pub no_more : slots_left until new ≤ slots_left until old
  pub fewer : moved ≡ true → slots_left until new < slots_left until old
  pub none : moved ≡ false → AllZip (IsPassed world schedule until false) old new

-- The stations of a worker ran by its schedule, which is that of some first entries of the history, and none
-- of them is above the slot or the horizon.
pub record Stands (setup : Setup) (history : List Entry) (world : World) (until : ℕ) (schedule : Schedule)
    (stations : List Station) : Type 0 where
  pub legal : IsLegal setup history
  pub behind : IsBehind setup history schedule
  pub run : All (λ station. HasRun world setup.loads schedule.grants.items (station_state station)) stations
  pub within : AreWithin until schedule.horizon stations
