-- All tiles of a platform together.
use Rattle.std.specs.Prelude.{ℕ, List, map}
use Rattle.std.specs.List.{range_with_len}
use Rattle.soc_base.specs.Port.{WordAndCredits, idle}
use Rattle.bundle_model.specs.declared.world.World.{World}
use Rattle.bundle_model.specs.declared.world.LoadName.{LoadName}
use Rattle.bundle_model.specs.declared.world.Grant.{Grant}
use Rattle.lockstep.specs.Hardware.{Hardware}
use Rattle.lockstep.specs.Lockstep.{Machine, lockstep}
use Rattle.tile_core.specs.Tile.{TileState, fresh_tile}
use Rattle.tile_core.specs.Slot.{tile_slot, slot_outputs}

-- the tiles of a world, for a run with these loads
abbrev pub tile_hardware : World → List LoadName → Hardware TileState WordAndCredits
tile_hardware world loads = record {
  fresh = fresh_tile world loads;
  at = λ tile. tile.at;
  after = tile_slot world;
  puts = slot_outputs world;
  idle = idle;
}

-- all tiles of the platform in step, joined by its links, at the beginning of a slot
abbrev pub machine_at : World → List LoadName → List Grant → ℕ → Machine TileState WordAndCredits
machine_at world loads grants slots = lockstep (tile_hardware world loads) world.platform.links grants slots

-- the tiles in step, in their order
abbrev pub tiles_at : World → List LoadName → List Grant → ℕ → List TileState
tiles_at world loads grants slots =
    map (machine_at world loads grants slots).tile (range_with_len 0 world.platform.tiles)
