-- What is installed on a tile, and what a tile needs for a slot.
use Rattle.std.specs.Prelude.{◌≡◌, ℕ, ◌*◌, ◌<◌, ◌≤◌, ◌==◌, ◌&&◌, All, List, find, length, slice_get, option_map, Option, Some, IsSome}
use Rattle.std.specs.Option.{option_and_then}
use Rattle.std.specs.Int.{bit_at}
use Rattle.soc_base.specs.declared.label.Label.{Label}
use Rattle.soc_base.specs.declared.limits.TheConstants.{LAST_CYCLE}
use Rattle.platform_model.specs.Platform.{frame_of}
use Rattle.bundle_model.specs.declared.bundle.Part.{Part}
use Rattle.bundle_model.specs.declared.world.World.{World}
use Rattle.bundle_model.specs.declared.world.LoadName.{LoadName}
use Rattle.bundle_model.specs.declared.world.Grant.{Grant}
use Rattle.bundle_model.specs.declared.world.Schedule.{Schedule}
use Rattle.bundle_model.specs.Grants.{IsApart, stands_at}
use Rattle.bundle_model.specs.World.{IsSoundWorld, AreOfLoads, same_label}
use Rattle.comik.specs.Kernel.{IsInstalled, owner_at, has}
use Rattle.grant_tables.specs.Tables.{AreTabled}
use Rattle.tile_core.specs.Tile.{TileState, number_of, place_at, load_part, loads_on}

-- the grant of a load that stands at the beginning of a slot, if there is one
abbrev pub standing_grant : List Grant → ℕ → Label → Option Grant
standing_grant grants slot label = find (λ grant. same_label grant.label label && stands_at slot grant) grants

-- the cycle from which on a load is granted, where its grant stands at the beginning of a slot
abbrev pub granted_cycle : World → List Grant → ℕ → LoadName → Option ℕ
granted_cycle world grants slot load =
    option_map (λ grant. grant.start * world.platform.slot_cycles) (standing_grant grants slot load.label)

-- the same of the load at a place of a tile
abbrev pub granted_from : World → List Grant → ℕ → TileState → ℕ → Option ℕ
granted_from world grants slot tile place =
    option_and_then (granted_cycle world grants slot) (slice_get tile.loads place)

-- the part of the load at a place is installed: it is known by its number, and of `slots` partition slots
-- it owns its own and no other
pub record IsPlaced (slots : ℕ) (tile : TileState) (place : ℕ) (part : Part) : Type 0 where
  pub known : place_at tile (number_of part) ≡ Some place
  pub installed : IsInstalled tile.kernel (number_of part)
  pub owns : (slot : ℕ) → slot < slots
      → has (number_of part) (owner_at tile.kernel slot) ≡ (bit_at part.slots slot == 1)

-- a number is that of the part of the load at a place, which is granted
pub record IsNumberOf (parts : ℕ → Option Part) (granted : ℕ → Option ℕ) (place number : ℕ) : Type 0 where
  pub part : Part
  pub start : ℕ
  pub part_is : parts place ≡ Some part
  pub start_is : granted place ≡ Some start
  pub number_is : number_of part ≡ number

-- Installed are exactly the loads at those places for which `granted` tells a cycle. `parts` tells the
-- part of the load at each place.
pub record AreInstalled (slots : ℕ) (parts : ℕ → Option Part) (granted : ℕ → Option ℕ) (tile : TileState) : Type 0 where
  pub each : (place : ℕ) (part : Part) (start : ℕ) → parts place ≡ Some part → granted place ≡ Some start
      → IsPlaced slots tile place part
  pub known : (number place : ℕ) → place_at tile number ≡ Some place → IsNumberOf parts granted place number
  pub owned : (slot number : ℕ) → owner_at tile.kernel slot ≡ Some number → IsSome (place_at tile number)

-- installed on the tile are exactly the grants that stand at its slot: their parts, and their entries in the
-- slot tables
pub record IsFit (world : World) (grants : List Grant) (tile : TileState) : Type 0 where
  pub parts : AreInstalled world.platform.partition_slots (load_part world tile)
      (granted_from world grants tile.at tile) tile
  pub tables : AreTabled world grants tile.at tile.number tile.tables

-- the tile was made for this world and these loads
pub record IsMadeFor (world : World) (loads : List LoadName) (tile : TileState) : Type 0 where
  pub number : tile.number < world.platform.tiles
  pub frame : tile.kernel.times ≡ frame_of world.platform
  pub owners : length tile.kernel.owners ≡ world.platform.partition_slots
  pub size : length tile.memory ≡ world.platform.mem_bytes
  pub places : length tile.places ≡ world.platform.partition_slots
  pub its_loads : tile.loads ≡ loads_on world tile.number loads
  pub logs : length tile.logs ≡ length tile.loads
  pub ports : length tile.ports ≡ world.platform.ports
  pub queues : All (λ port. port.queue ≡ world.platform.queue) tile.ports
  pub outputs : length tile.carried ≡ 7
  pub counts : All (λ count. count ≤ tile.at) tile.carried

-- What a tile needs to go on by a schedule: the world is sound and the tile was made for it and its
-- loads, the grants are apart and of these loads, what is installed is theirs, and the horizon isn't after
-- the greatest cycle at which a run may end.
pub record IsUnderway (world : World) (schedule : Schedule) (tile : TileState) : Type 0 where
  pub loads : List LoadName
  pub sound : IsSoundWorld world loads
  pub made : IsMadeFor world loads tile
  pub apart : IsApart world schedule.grants.items
  pub of_loads : AreOfLoads loads schedule.grants.items
  pub fits : IsFit world schedule.grants.items tile
  pub bounded : schedule.horizon * world.platform.slot_cycles ≤ LAST_CYCLE

-- what it needs for its next slot: besides, the slot lies below the horizon
pub record IsReady (world : World) (schedule : Schedule) (tile : TileState) : Type 0 where
  pub underway : IsUnderway world schedule tile
  pub below : tile.at < schedule.horizon
