-- A core in order: what holds between any two events.
use Rattle.std.specs.Prelude.{◌≡◌, ℕ, ◌+◌, ◌-◌, ◌≤◌, length, map, slice_get, All, Some}
use Rattle.std.specs.Option.{option_map_or}
use Rattle.std.specs.List.{range_with_len}
use Rattle.vep_manager.specs.declared.setup.Setup.{Setup}
use Rattle.vep_manager.specs.History.{horizon_of, grants_of}
use Rattle.vep_manager.specs.Legal.{IsLegal}
use Rattle.lockstep.specs.Hardware.{Hardware}
use Rattle.lockstep.specs.Lockstep.{Machine, lockstep}
use Rattle.core_model.specs.Core.{Line, CoreState}

-- the slot of a tile of the core
abbrev pub slot_of : {Tile Flit : Type 0} → Hardware Tile Flit → CoreState Tile Flit → ℕ → ℕ
slot_of hardware core number = option_map_or hardware.at (slice_get core.tiles number) 0

-- the machine in step, by the grants of the core's history
abbrev pub in_step : {Tile Flit : Type 0} → Hardware Tile Flit → Setup → CoreState Tile Flit → ℕ → Machine Tile Flit
in_step hardware setup core slot =
    lockstep hardware setup.world.platform.links (grants_of setup core.history) slot

-- A link holds the flits that it carries in the machine in step, from the slot of its reader on to that of
-- its writer. Where the reader is one slot ahead, it holds none.
pub record HoldsBetween (Tile Flit : Type 0) (hardware : Hardware Tile Flit) (setup : Setup)
    (core : CoreState Tile Flit) (line : Line Flit) : Type 0 where
  pub spaced : slot_of hardware core line.link.to ≤ slot_of hardware core line.link.from + 1
  pub holds : line.flits ≡ map (λ slot. (in_step hardware setup core slot).carried line.link)
      (range_with_len (slot_of hardware core line.link.to)
      (slot_of hardware core line.link.from + 1 - slot_of hardware core line.link.to))

-- The history is legal, every tile is at or below the horizon and is that of the machine in step at its own
-- slot, and each link holds the flits between its two tiles.
pub record IsInOrder (Tile Flit : Type 0) (hardware : Hardware Tile Flit) (setup : Setup)
    (core : CoreState Tile Flit) : Type 0 where
  pub legal : IsLegal setup core.history
  pub counted : length core.tiles ≡ setup.world.platform.tiles
  pub linked : map (λ line. line.link) core.lines ≡ setup.world.platform.links
  pub below : (number : ℕ) (tile : Tile) → slice_get core.tiles number ≡ Some tile
      → hardware.at tile ≤ horizon_of setup core.history
  pub stepped : (number : ℕ) (tile : Tile) → slice_get core.tiles number ≡ Some tile
      → tile ≡ (in_step hardware setup core (hardware.at tile)).tile number
  pub between : All (HoldsBetween Tile Flit hardware setup core) core.lines
