-- What every list of events leaves true of the grants of a core, and of two cores.
use Rattle.std.specs.Prelude.{◌≡◌, ℕ, ◌+◌, List, All, Contains, slice_get, Some}
use Rattle.soc_base.specs.Port.{WordAndCredits}
use Rattle.bundle_model.specs.declared.world.Grant.{Grant}
use Rattle.bundle_model.specs.Grants.{bundle_at}
use Rattle.tile_core.specs.Tile.{TileState, log_of}
use Rattle.tile_core.specs.Fit.{IsFit, IsMadeFor}
use Rattle.vep_manager.specs.declared.setup.Setup.{Setup}
use Rattle.vep_manager.specs.Setup.{IsSound}
use Rattle.vep_manager.specs.History.{grants_of}
use Rattle.core_model.specs.Core.{Line, Happening, CoreState, core_after}
use Rattle.core_model.specs.Order.{IsInOrder, slot_of}
use Rattle.event_core.specs.Stands.{Stands, stop_slot}
use Rattle.event_core.specs.Links.{LinkFollows}
use Rattle.event_core.specs.Core.{hardware_of}

-- the core of a setup after events
abbrev pub core_of : Setup → List Happening → CoreState TileState WordAndCredits
core_of setup events = core_after (hardware_of setup) setup events

-- whatever events come, the core is in order
abbrev pub CoresAreInStep : Setup → Type 0
CoresAreInStep setup = (events : List Happening)
    → IsInOrder TileState WordAndCredits (hardware_of setup) setup (core_of setup events)

-- and what is installed on each tile is what stands at its own slot
abbrev pub CoresFit : Setup → Type 0
CoresFit setup = (events : List Happening) → let core = core_of setup events in
    All (λ tile. IsMadeFor setup.world setup.loads tile × IsFit setup.world (grants_of setup core.history) tile)
    core.tiles

-- every grant stands on every tile, each tile at its own slot: grants that have ended, places that were
-- granted again, and grants that are yet to begin alike
abbrev pub CoresStand : Setup → Type 0
CoresStand setup = (events : List Happening) → let core = core_of setup events in
    All (λ tile. All (λ grant. Stands setup.world grant tile) (grants_of setup core.history)) core.tiles

-- the flits that a link holds, from the slot of its reader on, are each what the link carries there
abbrev pub LineFollows : Setup → CoreState TileState WordAndCredits → ℕ → Line WordAndCredits → Type 0
LineFollows setup core number line = (place : ℕ) (flit : WordAndCredits) → slice_get line.flits place ≡ Some flit
    → LinkFollows setup.world (grants_of setup core.history)
    (slot_of (hardware_of setup) core line.link.to + place) number flit

-- whatever events come, each link holds such flits
abbrev pub CoreLinksFollow : Setup → Type 0
CoreLinksFollow setup = (events : List Happening) (number : ℕ) (line : Line WordAndCredits)
    → let core = core_of setup events in
    slice_get core.lines number ≡ Some line → LineFollows setup core number line

-- A grant of one core and a grant of another: on tiles of one number, of one platform, each has its start,
-- its bundle and the slot where it is stopped in common.
pub record AreTwins (one other : Setup) (tile twin : TileState) (grant again : Grant) : Type 0 where
  pub platform : one.world.platform ≡ other.world.platform
  pub number : tile.number ≡ twin.number
  pub bundle : bundle_at one.world grant.bundle ≡ bundle_at other.world again.bundle
  pub start : grant.start ≡ again.start
  pub stop : stop_slot tile.at grant ≡ stop_slot twin.at again

-- Two worlds: whatever else the scripts of two setups ask for, and whatever events come, the logs of such
-- grants are one.
abbrev pub TwoWorlds : Type 0
TwoWorlds =
    (one other : Setup) (events again : List Happening) → IsSound one → IsSound other
    → (tile twin : TileState) (grant twin_grant : Grant)
    → Contains (core_of one events).tiles tile → Contains (core_of other again).tiles twin
    → Contains (grants_of one (core_of one events).history) grant
    → Contains (grants_of other (core_of other again).history) twin_grant
    → AreTwins one other tile twin grant twin_grant → log_of tile grant.label ≡ log_of twin twin_grant.label
