-- What a tile holds of parts that are each of their own.
use Rattle.std.specs.Prelude.{◌≡◌, ℕ, ◌*◌, ◌<◌, List, length, Option, Some}
use Rattle.soc_base.specs.Time.{FrameTimes, offset_at}
use Rattle.platform_model.specs.Platform.{frame_of}
use Rattle.bundle_model.specs.declared.bundle.Part.{Part}
use Rattle.bundle_model.specs.declared.world.World.{World}
use Rattle.bundle_model.specs.declared.world.Grant.{Grant}
use Rattle.comik.specs.Switching.{IsWhole, InStep, context_of}
use Rattle.comik.specs.Turn.{TurnOf}
use Rattle.tile_memory.specs.Bytes.{IsInside, region_bytes}
use Rattle.trace_log.specs.Log.{Log}
use Rattle.part_model.specs.Part.{PartState}
use Rattle.tile_mmio.specs.Ports.{own_ports, AreOwn}
use Rattle.tile_core.specs.Tile.{TileState, number_of, log_at, load_part}
use Rattle.tile_core.specs.Cycle.{words_of}
use Rattle.tile_core.specs.Fit.{AreInstalled, granted_from}

-- an installed part before a cycle: its words, the bytes of its region, its ports, and its start by its
-- number
pub record IsHere (times : FrameTimes) (starts : ℕ → ℕ) (cycle : ℕ) (tile : TileState)
    (part : Part) (start : ℕ) (view : PartState) : Type 0 where
  pub words : context_of tile.kernel (offset_at times cycle) (number_of part) ≡ words_of view
  pub bytes : region_bytes tile.memory part.region ≡ view.bytes
  pub ports : own_ports tile.ports part.ports ≡ view.ports
  pub start_is : starts (number_of part) ≡ start

-- the log at a place
pub record IsLogged (tile : TileState) (place : ℕ) (log : Log) : Type 0 where
  pub inside : place < length tile.logs
  pub is : log_at tile place ≡ log

-- A tile holds parts before a cycle. `parts` tells the part of the load at each place, `granted` the cycle
-- from which on it is granted, where it is installed, `starts` the same by the parts' numbers, and `view`
-- what each part is by itself, installed or not.
pub record Holds (times : FrameTimes) (parts : ℕ → Option Part) (granted : ℕ → Option ℕ)
    (starts : ℕ → ℕ) (view : ℕ → PartState) (cycle : ℕ) (tile : TileState) : Type 0 where
  pub frame : tile.kernel.times ≡ times
  pub whole : IsWhole tile.kernel
  pub step : InStep tile.kernel (offset_at times cycle)
  pub turn : TurnOf tile.kernel starts cycle
  pub installed : AreInstalled times.slots parts granted tile
  pub inside : (place : ℕ) (part : Part) → parts place ≡ Some part → IsInside tile.memory part.region
  pub own : (place : ℕ) (part : Part) → parts place ≡ Some part → AreOwn tile.ports part.ports
  pub here : (place : ℕ) (part : Part) (start : ℕ) → parts place ≡ Some part → granted place ≡ Some start
      → IsHere times starts cycle tile part start (view place)
  pub logs : (place : ℕ) (part : Part) → parts place ≡ Some part → IsLogged tile place (view place).log

-- the same of a tile of a world, at the beginning of its slot
abbrev pub HoldsAt : World → (ℕ → Option ℕ) → (ℕ → ℕ) → (ℕ → PartState) → TileState → Type 0
HoldsAt world granted starts view tile =
    let cycle = tile.at * world.platform.slot_cycles in
    Holds (frame_of world.platform) (load_part world tile) granted starts view cycle tile

-- at the beginning of its slot a tile holds the parts of its loads, of which those are installed whose
-- grants stand
pub record HoldsGranted (world : World) (grants : List Grant) (view : ℕ → PartState) (tile : TileState) : Type 0 where
  pub starts : ℕ → ℕ
  pub holds : HoldsAt world (granted_from world grants tile.at tile) starts view tile
