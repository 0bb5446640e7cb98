-- What a worker goes by, and what it ends with.
use Rattle.std.specs.Prelude.{◌≡◌, ℕ, ◌+◌, ◌-◌, ◌^◌, ◌<◌, ◌≤◌, ◌⊎◌, List, slice_get, All, Some, IsSome}
use mathlib.Core.List.{IsPrefix}
use Rattle.bundle_model.specs.declared.world.Schedule.{Schedule}
use Rattle.vep_manager.specs.declared.setup.Setup.{Setup}
use Rattle.vep_manager.specs.declared.reply.Entry.{Entry}
use Rattle.vep_manager.specs.History.{grants_of, horizon_of}
use Rattle.tile_core.specs.declared.station.Station.{Station}
use Rattle.tile_core.specs.Wires.{first_stuck, first_missing}
use Rattle.tile_core.specs.Station.{tries_of, still_of}
use Rattle.tile_workers.specs.declared.working.TheConstants.{MOST_IDLE_TURNS}

-- a count that never falls rose by so many at least, or stands at the greatest u64 (or above it, if it is
-- one that can)
abbrev pub RoseBy : ℕ → ℕ → ℕ → Type 0
RoseBy least old new = (old + least ≤ new) ⊎ ((old ≤ new) × (2 ^ 64 - 1 ≤ new))

-- such a count rose by 1 at least
abbrev pub Rises : ℕ → ℕ → Type 0
Rises old new = RoseBy 1 old new

-- the schedule is that of a history
pub record IsScheduleOf (setup : Setup) (history : List Entry) (schedule : Schedule) : Type 0 where
  pub grants : schedule.grants.items ≡ grants_of setup history
  pub horizon : schedule.horizon ≡ horizon_of setup history

-- the schedule is that of some first entries of a history
abbrev pub IsBehind : Setup → List Entry → Schedule → Type 0
IsBehind setup history schedule = (seen : List Entry) × IsPrefix seen history × IsScheduleOf setup seen schedule

-- no tile is above a slot, or above a horizon
abbrev pub AreWithin : ℕ → ℕ → List Station → Type 0
AreWithin until horizon stations = All (λ station. (station.tile.at ≤ until) × (station.tile.at ≤ horizon)) stations

-- every tile is at a slot
abbrev pub AreDone : ℕ → List Station → Type 0
AreDone until stations = All (λ station. station.tile.at ≡ until) stations

-- what keeps a station from its next slot: the horizon, a flit that waits to be pushed, or one that is missing
abbrev pub IsHeldUp : Schedule → Station → Type 0
IsHeldUp schedule station =
    (schedule.horizon ≤ station.tile.at) ⊎ IsSome (first_stuck station.outs.items)
    ⊎ IsSome (first_missing station.ins.items)

-- A station that was tried so many turns without a slot: its tries rose by as many, as many in a row came to
-- nothing, and something still keeps it from its next slot.
pub record GaveUp (schedule : Schedule) (before after : Station) : Type 0 where
  pub tries : RoseBy MOST_IDLE_TURNS (tries_of before) (tries_of after)
  pub still : MOST_IDLE_TURNS ≤ still_of after
  pub held_up : IsHeldUp schedule after

-- What a worker that gave up leaves: a tile is below its slot, the schedule was asked for in each of so many
-- turns, and each station below the slot was tried in each of them in vain.
pub record IsIdle (until : ℕ) (schedule : Schedule) (old new : List Station) (turns_old turns_new : ℕ) : Type 0 where
  pub place : ℕ
  pub station : Station
  pub there : slice_get new place ≡ Some station
  pub below : station.tile.at < until
  pub turns : RoseBy MOST_IDLE_TURNS turns_old turns_new
  pub each : (place : ℕ) (before after : Station) → slice_get old place ≡ Some before
      → slice_get new place ≡ Some after → after.tile.at < until → GaveUp schedule before after
