-- What the steps of a slot need of a tile.
use Rattle.std.specs.Prelude.{◌≡◌, ℕ, ◌*◌, ◌^◌, ◌<◌, ◌≤◌, List, length, Some, All}
use Rattle.bundle_model.specs.declared.bundle.Part.{Part}
use Rattle.bundle_model.specs.declared.world.World.{World}
use Rattle.bundle_model.specs.declared.world.LoadName.{LoadName}
use Rattle.bundle_model.specs.declared.world.Grant.{Grant}
use Rattle.bundle_model.specs.declared.world.Schedule.{Schedule}
use Rattle.bundle_model.specs.World.{IsSoundWorld}
use Rattle.comik.specs.Kernel.{IsInstalled, AreFree}
use Rattle.tile_memory.specs.Bytes.{IsInside}
use Rattle.tile_mmio.specs.Ports.{AreNumbers}
use Rattle.tile_core.specs.Tile.{TileState, number_of, load_part, load_place}
use Rattle.tile_core.specs.Slot.{with_ends}
use Rattle.tile_core.specs.Fit.{IsMadeFor, IsUnderway}

-- the tile was made for the world and some loads of it
pub record IsSoundTile (world : World) (tile : TileState) : Type 0 where
  pub loads : List LoadName
  pub sound : IsSoundWorld world loads
  pub made : IsMadeFor world loads tile

-- the ports of a part are ports of the tile, all of which have the platform's queues
pub record HasPorts (world : World) (tile : TileState) (part : Part) : Type 0 where
  pub within : AreNumbers tile.ports part.ports
  pub queues : All (λ port. port.queue ≡ world.platform.queue) tile.ports

-- a part can leave: it is installed
pub record CanLeave (world : World) (tile : TileState) (part : Part) : Type 0 where
  pub installed : IsInstalled tile.kernel (number_of part)
  pub numbered : number_of part < length tile.places
  pub ports : HasPorts world tile part

-- a part can come: it has partition slots, all of them free, and its region holds its image
pub record CanCome (world : World) (tile : TileState) (part : Part) : Type 0 where
  pub some : 0 < part.slots
  pub below : part.slots < 2 ^ tile.kernel.times.slots
  pub free : AreFree tile.kernel part.slots
  pub inside : IsInside tile.memory part.region
  pub image : 4 * length part.image ≤ part.region.len
  pub numbered : number_of part < length tile.places
  pub ports : HasPorts world tile part

-- the part of a grant's load can leave, and can come, if the load has one on the tile
abbrev pub CanEnd : World → TileState → Grant → Type 0
CanEnd world tile grant =
    (place : ℕ) (part : Part) → load_place tile grant.label ≡ Some place → load_part world tile place ≡ Some part
    → CanLeave world tile part

-- what beginning a grant asks: where its load has a part on the tile, there is room for it
abbrev pub CanBegin : World → TileState → Grant → Type 0
CanBegin world tile grant =
    (place : ℕ) (part : Part) → load_place tile grant.label ≡ Some place → load_part world tile place ≡ Some part
    → CanCome world tile part

-- the parts of the grants that end in the slot have left
pub record HasEnded (world : World) (schedule : Schedule) (tile : TileState) : Type 0 where
  pub before : TileState
  pub underway : IsUnderway world schedule before
  pub is : tile ≡ with_ends world schedule.grants.items before
