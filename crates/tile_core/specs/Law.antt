-- The law of one tile: it holds its parts, each as it is by itself.
use Rattle.std.specs.Prelude.{◌≡◌, ℕ, ◌+◌, ◌<◌, true, List, Some}
use Rattle.soc_base.specs.Port.{WordAndCredits}
use Rattle.bundle_model.specs.declared.bundle.Part.{Part}
use Rattle.bundle_model.specs.declared.world.World.{World}
use Rattle.bundle_model.specs.declared.world.LoadName.{LoadName}
use Rattle.bundle_model.specs.declared.world.Grant.{Grant}
use Rattle.bundle_model.specs.Grants.{IsApart, stands_at}
use Rattle.bundle_model.specs.World.{IsSoundWorld, AreOfLoads}
use Rattle.trace_log.specs.Log.{new_log}
use Rattle.part_model.specs.Part.{PartState}
use Rattle.grant_tables.specs.Tables.{tables_after}
use Rattle.tile_core.specs.Tile.{TileState, fresh_tile, load_part}
use Rattle.tile_mmio.specs.Ports.{own_ports}
use Rattle.tile_core.specs.Slot.{tile_slot, with_grants}
use Rattle.tile_core.specs.Fit.{IsMadeFor, IsFit}
use Rattle.tile_core.specs.Views.{place_grant, opened_view, views_slot}
use Rattle.tile_core.specs.Holds.{HoldsGranted}

-- a tile before its first slot: it is of its world and loads, and nothing is installed
pub record Begins (world : World) (loads : List LoadName) (grants : List Grant) (number : ℕ) : Type 0 where
  pub made : IsMadeFor world loads (fresh_tile world loads number)
  pub fits : IsFit world grants (fresh_tile world loads number)
  pub at : (fresh_tile world loads number).at ≡ 0
  pub number_is : (fresh_tile world loads number).number ≡ number

-- the law of a tile before its first slot
abbrev pub TilesBegin : Type 0
TilesBegin = (world : World) (loads : List LoadName) (grants : List Grant) (number : ℕ) → number < world.platform.tiles
    → Begins world loads grants number

-- a tile after its slot: it is still of its world and loads, and what is installed is what stands at its
-- next slot
pub record GoesOn (world : World) (loads : List LoadName) (grants : List Grant) (inputs : List WordAndCredits)
    (tile : TileState) : Type 0 where
  pub made : IsMadeFor world loads (tile_slot world grants inputs tile)
  pub fits : IsFit world grants (tile_slot world grants inputs tile)
  pub at : (tile_slot world grants inputs tile).at ≡ tile.at + 1
  pub number_same : (tile_slot world grants inputs tile).number ≡ tile.number
  pub loads_same : (tile_slot world grants inputs tile).loads ≡ tile.loads
  pub tables_are : (tile_slot world grants inputs tile).tables
      ≡ tables_after world tile.number grants tile.at tile.tables

-- the law of a tile's slot, where no two grants share a resource and each is of one of the loads
abbrev pub TilesGoOn : Type 0
TilesGoOn = (world : World) (loads : List LoadName) (grants : List Grant) (inputs : List WordAndCredits)
    (tile : TileState) → IsSoundWorld world loads → IsApart world grants → AreOfLoads loads grants
    → IsMadeFor world loads tile → IsFit world grants tile → GoesOn world loads grants inputs tile

-- each part of a tile's loads has an empty log
abbrev pub AreEmpty : World → TileState → (ℕ → PartState) → Type 0
AreEmpty world tile view =
    (place : ℕ) (part : Part) → load_part world tile place ≡ Some part → (view place).log ≡ new_log part.trace

-- Before its first slot a tile holds its parts, none of them installed and each with an empty log.
abbrev pub HoldsFirst : Type 0
HoldsFirst =
    (world : World) (loads : List LoadName) (grants : List Grant) (number : ℕ) (view : ℕ → PartState)
    → IsSoundWorld world loads → number < world.platform.tiles
    → AreEmpty world (fresh_tile world loads number) view
    → HoldsGranted world grants view (fresh_tile world loads number)

-- Once the grants of its slot have ended and begun, an installed part has its ports, as it has by itself.
abbrev pub HoldsPorts : Type 0
HoldsPorts =
    (world : World) (loads : List LoadName) (grants : List Grant) (view : ℕ → PartState) (tile : TileState)
    (place : ℕ) (part : Part) (grant : Grant) → IsSoundWorld world loads → IsApart world grants
    → AreOfLoads loads grants → IsMadeFor world loads tile → HoldsGranted world grants view tile
    → load_part world tile place ≡ Some part → place_grant grants tile place ≡ Some grant
    → stands_at (tile.at + 1) grant ≡ true
    → own_ports (with_grants world grants tile).ports part.ports
    ≡ (opened_view world tile.at grant part (view place)).ports

-- After its slot it holds them, each as it is by itself after that slot.
abbrev pub HoldsNext : Type 0
HoldsNext =
    (world : World) (loads : List LoadName) (grants : List Grant) (inputs : List WordAndCredits)
    (view : ℕ → PartState) (tile : TileState) → IsSoundWorld world loads → IsApart world grants
    → AreOfLoads loads grants → IsMadeFor world loads tile → HoldsGranted world grants view tile
    → HoldsGranted world grants (views_slot world grants inputs tile view) (tile_slot world grants inputs tile)
