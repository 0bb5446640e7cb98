-- The laws of the core, over every list of events.
use Rattle.std.specs.Prelude.{◌≡◌, ℕ, ◌≤◌, List, All, IfSome, IsTrue, IsNone, ◌↔◌, slice_get, Some}
use mathlib.Core.List.{IsPrefix}
use Rattle.platform_model.specs.declared.link.Link.{Link}
use Rattle.vep_manager.specs.declared.setup.Setup.{Setup}
use Rattle.vep_manager.specs.declared.reply.Entry.{Entry}
use Rattle.vep_manager.specs.History.{horizon_of, grants_of}
use Rattle.vep_manager.specs.Legal.{IsLegal}
use Rattle.lockstep.specs.Hardware.{Hardware}
use Rattle.lockstep.specs.Lockstep.{lockstep, tile_run}
use Rattle.lockstep.specs.Stays.{IsPaced}
use Rattle.core_model.specs.Core.{Happening, core_after, may_go, least_ready}
use Rattle.core_model.specs.Order.{IsInOrder}

-- What was done stays: after every legal history that begins with an old one, the machine in step is the
-- same as after the old one, at every slot up to the old horizon.
abbrev pub HistoriesStay : (Tile Flit : Type 0) → Setup → Type 0
HistoriesStay Tile Flit setup =
    (hardware : Hardware Tile Flit) (links : List Link) (old new : List Entry) (slot : ℕ)
    → IsPaced Tile Flit hardware → IsPrefix old new → IsLegal setup new → slot ≤ horizon_of setup old
    → lockstep hardware links (grants_of setup new) slot ≡ lockstep hardware links (grants_of setup old) slot

-- And so is a tile by itself, over the same flits.
abbrev pub HistoryRunsStay : (Tile Flit : Type 0) → Setup → Type 0
HistoryRunsStay Tile Flit setup =
    (hardware : Hardware Tile Flit) (links : List Link) (flits : Link → ℕ → Flit) (old new : List Entry)
    (number slot : ℕ) → IsPaced Tile Flit hardware → IsPrefix old new → IsLegal setup new
    → slot ≤ horizon_of setup old
    → tile_run hardware links (grants_of setup new) flits number slot
    ≡ tile_run hardware links (grants_of setup old) flits number slot

-- whatever events come, the core is in order
abbrev pub CoresAreInOrder : (Tile Flit : Type 0) → Setup → Type 0
CoresAreInOrder Tile Flit setup =
    (hardware : Hardware Tile Flit) (events : List Happening) → IsPaced Tile Flit hardware
    → IsInOrder Tile Flit hardware setup (core_after hardware setup events)

-- the tile of least slot may take its next slot
abbrev pub LeastMayGo : (Tile Flit : Type 0) → Setup → Type 0
LeastMayGo Tile Flit setup =
    (hardware : Hardware Tile Flit) (events : List Happening) → IsPaced Tile Flit hardware
    → let core = core_after hardware setup events in
    IfSome (least_ready hardware setup core)
    (λ number. (tile : Tile) × (slice_get core.tiles number ≡ Some tile)
    × IsTrue (may_go hardware setup core number tile))

-- there is none exactly where every tile is at the horizon
abbrev pub NoneIsReady : (Tile Flit : Type 0) → Setup → Type 0
NoneIsReady Tile Flit setup =
    (hardware : Hardware Tile Flit) (events : List Happening) → IsPaced Tile Flit hardware
    → let core = core_after hardware setup events in
    IsNone (least_ready hardware setup core)
    ↔ All (λ tile. horizon_of setup core.history ≤ hardware.at tile) core.tiles
