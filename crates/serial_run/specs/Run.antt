-- What the stations of a platform need to go on, and what a run ends with.
use Rattle.std.specs.Prelude.{◌≡◌, ℕ, ◌+◌, ◌*◌, ◌≤◌, List, [], ◌∷◌, map, slice_get, All, Contains}
use Rattle.std.specs.List.{range_with_len}
use Rattle.std.specs.Option.{option_map_or}
use Rattle.soc_base.specs.Port.{WordAndCredits, idle}
use Rattle.soc_base.specs.declared.limits.TheConstants.{LAST_CYCLE}
use Rattle.platform_model.specs.declared.link.Link.{Link}
use Rattle.bundle_model.specs.declared.world.World.{World}
use Rattle.bundle_model.specs.declared.world.LoadName.{LoadName}
use Rattle.bundle_model.specs.declared.world.Grant.{Grant}
use Rattle.bundle_model.specs.declared.world.Schedule.{Schedule}
use Rattle.bundle_model.specs.Grants.{IsApart}
use Rattle.bundle_model.specs.World.{IsSoundWorld, AreOfLoads}
use Rattle.tile_core.specs.declared.station.Station.{Station}
use Rattle.tile_core.specs.Tile.{TileState}
use Rattle.tile_core.specs.Lockstep.{machine_at, tiles_at}
use Rattle.tile_core.specs.Wires.{out_seen, in_seen, flits_at}
use Rattle.tile_core.specs.Station.{station_state, HaveRun}
use Rattle.vep_manager.specs.declared.setup.Setup.{Setup}
use Rattle.vep_manager.specs.History.{grants_of}
use Rattle.serial_run.specs.declared.end.RunEnd.{RunEnd}

-- the tiles of stations
abbrev pub tiles_of : List Station → List TileState
tiles_of stations = map (λ station. station.tile) stations

-- what was set into a link so far, by the station that it leaves
abbrev pub set_into : List Station → Link → List WordAndCredits
set_into stations link =
    option_map_or (λ station. flits_at (map out_seen station.outs.items) link.out) (slice_get stations link.from) []

-- what was taken from a link so far, by the station that it enters
abbrev pub taken_from : List Station → Link → List WordAndCredits
taken_from stations link =
    option_map_or (λ station. flits_at (map in_seen station.ins.items) link.input) (slice_get stations link.to) []

-- What all stations of a world need to go on by a schedule up to a slot: the world is sound, the grants are
-- apart and of its loads, each tile is at the slot or before it and has run by itself over what it took,
-- and the horizon is at the slot or after it, and not after the greatest cycle at which a run may end.
pub record CanFinish (world : World) (schedule : Schedule) (until : ℕ) (stations : List Station) : Type 0 where
  pub loads : List LoadName
  pub sound : IsSoundWorld world loads
  pub run : HaveRun world loads schedule.grants.items (map station_state stations)
  pub low : All (λ station. station.tile.at ≤ until) stations
  pub apart : IsApart world schedule.grants.items
  pub of_loads : AreOfLoads loads schedule.grants.items
  pub reached : until ≤ schedule.horizon
  pub bounded : schedule.horizon * world.platform.slot_cycles ≤ LAST_CYCLE

-- The rings of all links are those of the machine in step at a slot: the idle flit and then what was set into
-- a link are what it carries in the slots 0 to that one, and what was taken from it what it carried before.
pub record RingsInStep (world : World) (loads : List LoadName) (grants : List Grant) (slot : ℕ)
    (stations : List Station) : Type 0 where
  pub set : (link : Link) → Contains world.platform.links link
      → idle ∷ set_into stations link
      ≡ map (λ at. (machine_at world loads grants at).carried link) (range_with_len 0 (slot + 1))
  pub taken : (link : Link) → Contains world.platform.links link
      → taken_from stations link
      ≡ map (λ at. (machine_at world loads grants at).carried link) (range_with_len 0 slot)

-- the stations hold the tiles in step at a slot, and rings
abbrev pub AreInStep : World → List LoadName → List Grant → ℕ → List Station → Type 0
AreInStep world loads grants slot stations =
    (tiles_of stations ≡ tiles_at world loads grants slot) × RingsInStep world loads grants slot stations

-- stations that had run by themselves are then all in step at a slot
abbrev pub FinishesInStep : World → List Grant → ℕ → List Station → List Station → Type 0
FinishesInStep world grants until old new =
    (loads : List LoadName) → HaveRun world loads grants (map station_state old)
    → AreInStep world loads grants until new

-- the tiles are those of the machine by the grants of a history, in step at the end of the run
abbrev pub EndsInStep : Setup → RunEnd → Type 0
EndsInStep setup end =
    tiles_of end.stations ≡ tiles_at setup.world setup.loads (grants_of setup end.history) setup.budget

-- and so are the rings of its links
abbrev pub RingsEndInStep : Setup → RunEnd → Type 0
RingsEndInStep setup end =
    RingsInStep setup.world setup.loads (grants_of setup end.history) setup.budget end.stations
