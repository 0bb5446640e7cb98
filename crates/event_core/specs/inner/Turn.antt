-- What a slot of one tile changes.
use Rattle.std.specs.Prelude.{◌≡◌, ℕ, List, map, slice_set}
use Rattle.soc_base.specs.Port.{WordAndCredits, idle}
use Rattle.bundle_model.specs.declared.world.World.{World}
use Rattle.bundle_model.specs.declared.world.LoadName.{LoadName}
use Rattle.bundle_model.specs.declared.world.Grant.{Grant}
use Rattle.tile_core.specs.Tile.{TileState}
use Rattle.tile_core.specs.Slot.{tile_slot, slot_outputs}
use Rattle.tile_core.specs.Fit.{IsFit, IsMadeFor}
use Rattle.core_model.specs.Core.{Line, line_inputs, passed}

-- the tiles after a slot of one of them, which fits as it did
pub record IsTurned (world : World) (grants : List Grant) (inputs : List WordAndCredits) (number : ℕ)
    (before after : List TileState) (tile : TileState) : Type 0 where
  pub turned : after ≡ slice_set before number (tile_slot world grants inputs tile)
  pub fits : IsFit world grants (tile_slot world grants inputs tile)
  pub made : (loads : List LoadName) → IsMadeFor world loads tile
      → IsMadeFor world loads (tile_slot world grants inputs tile)

-- the tiles and the links after a slot of a tile
pub record IsPassedOn (world : World) (grants : List Grant) (number : ℕ) (tiles tiles_after : List TileState)
    (lines lines_after : List (Line WordAndCredits)) (tile : TileState) : Type 0 where
  pub turned : IsTurned world grants (line_inputs idle lines number) number tiles tiles_after tile
  pub passed_on : lines_after
      ≡ map (passed idle number (slot_outputs world grants (line_inputs idle lines number) tile)) lines
