-- Tiles look at no grant that begins later and at no end that comes later.
use Rattle.std.specs.Prelude.{List}
use Rattle.soc_base.specs.Port.{WordAndCredits}
use Rattle.bundle_model.specs.declared.world.World.{World}
use Rattle.bundle_model.specs.declared.world.LoadName.{LoadName}
use Rattle.lockstep.specs.Stays.{IsPaced}
use Rattle.tile_core.specs.Tile.{TileState}
use Rattle.tile_core.specs.Lockstep.{tile_hardware}

-- the tiles of a world, for a run with any loads, are paced
abbrev pub TilesArePaced : Type 0
TilesArePaced = (world : World) (loads : List LoadName) → IsPaced TileState WordAndCredits (tile_hardware world loads)
