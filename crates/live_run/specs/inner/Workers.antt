-- The tiles of workers, before the first slot and once they were worked on.
use Rattle.std.specs.Prelude.{◌≡◌, ◌<◌, ◌≤◌, List, [], length, map, vec_capacity, All, Vec}
use Rattle.std.specs.Global.{Global}
use mathlib.Core.List.{IsPrefix}
use Rattle.bundle_model.specs.declared.world.World.{World}
use Rattle.bundle_model.specs.declared.world.LoadName.{LoadName}
use Rattle.bundle_model.specs.declared.world.Grant.{Grant}
use Rattle.bundle_model.specs.declared.world.Schedule.{Schedule}
use Rattle.tile_core.specs.declared.station.Station.{Station}
use Rattle.tile_core.specs.Station.{Ends, station_state, ends_of, HasRun, HaveRun}
use Rattle.tile_workers.specs.Work.{IsScheduleOf}
use Rattle.vep_manager.specs.declared.setup.Setup.{Setup}
use Rattle.vep_manager.specs.declared.reply.Entry.{Entry}
use Rattle.vep_manager.specs.History.{grants_of, horizon_of}
use Rattle.soc_base.specs.declared.limits.TheConstants.{MOST_TILES}
use Rattle.live_run.specs.inner.Hands.{gathered}
use Rattle.live_run.specs.declared.worker.Worker.{Worker}

-- a station before its first slot, which has run by any grants
pub record IsFirst (world : World) (loads : List LoadName) (station : Station) : Type 0 where
  pub begins : station.tile.at ≡ 0
  pub run : (grants : List Grant) → HasRun world loads grants (station_state station)

-- a schedule of no entries, with room for every load
pub record IsBlank (setup : Setup) (schedule : Schedule) : Type 0 where
  pub room : length setup.loads ≤ vec_capacity schedule.grants
  pub of_none : IsScheduleOf setup [] schedule

-- the stations of a worker
abbrev pub hand : Worker → List Station
hand worker = worker.group.stations.items

-- its schedule
abbrev pub schedule_of : Worker → Schedule
schedule_of worker = worker.schedule

-- a worker that has not begun
pub record IsFresh (setup : Setup) (worker : Worker) : Type 0 where
  pub schedule : IsBlank setup worker.schedule
  pub first : All (IsFirst setup.world setup.loads) (hand worker)

-- Workers that have not begun, among whom all stations of the platform are dealt out, and an empty list with
-- room for these.
pub record AreStaffed (setup : Setup) (crew : List Worker) (stations : Vec Station Global) : Type 0 where
  pub built : List Station
  pub run : (grants : List Grant) → HaveRun setup.world setup.loads grants (map station_state built)
  pub dealt : gathered (length crew) setup.world.platform.tiles 0 [] (map hand crew) ≡ built
  pub fresh : All (IsFresh setup) crew
  pub some : 0 < length crew
  pub few : length crew ≤ MOST_TILES
  pub empty : stations.items ≡ []
  pub room : setup.world.platform.tiles ≤ vec_capacity stations

-- a station has run by the grants of some first entries of those that were seen, not beyond their horizon
-- nor beyond the end of the run
pub record HasCome (setup : Setup) (seen : List Entry) (station : Station) : Type 0 where
  pub front : List Entry
  pub begins : IsPrefix front seen
  pub run : HasRun setup.world setup.loads (grants_of setup front) (station_state station)
  pub low : station.tile.at ≤ setup.budget
  pub known : station.tile.at ≤ horizon_of setup front

-- what never changes of stations
abbrev pub ends_in : List Station → List Ends
ends_in stations = map (λ station. ends_of (station_state station)) stations

-- a worker has the same tiles, and they have come as far as the entries that were seen allow
pub record HasWorked (setup : Setup) (seen : List Entry) (old new : Worker) : Type 0 where
  pub come : All (HasCome setup seen) (hand new)
  pub ends : ends_in (hand new) ≡ ends_in (hand old)

-- the same of all workers
pub record HaveWorked (setup : Setup) (seen : List Entry) (old new : List Worker) : Type 0 where
  pub come : All (λ worker. All (HasCome setup seen) (hand worker)) new
  pub ends : map (λ worker. ends_in (hand worker)) new ≡ map (λ worker. ends_in (hand worker)) old
