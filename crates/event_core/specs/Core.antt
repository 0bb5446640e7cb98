-- The core of the emulator: the manager, the tiles, each at a slot of its own, and the flits between them.
use Rattle.std.specs.Prelude.{ℕ, ◌+◌, ◌<◌, ◌&&◌, not, nat_le, Bool, List, [], ◌∷◌, length, position, slice_get, if◌then◌else◌, Option, Some, None, option_map, is_some}
use Rattle.std.specs.Option.{option_and_then, option_map_or}
use Rattle.soc_base.specs.Port.{WordAndCredits}
use Rattle.lockstep.specs.Hardware.{Hardware}
use Rattle.tile_core.specs.Tile.{TileState}
use Rattle.tile_core.specs.Lockstep.{tile_hardware}
use Rattle.vep_manager.specs.declared.setup.Setup.{Setup}
use Rattle.vep_manager.specs.History.{IsSession, horizon_of}
use Rattle.vep_manager.specs.Replies.{next_entry}
use Rattle.core_model.specs.Core.{Line, CoreState, Happening, fresh_core, is_fed, happens}
use Rattle.core_model.specs.Core.Happening.{Command as Commands, Slot as Slots}
use Rattle.event_core.specs.declared.event.Event.{Event}
use Rattle.event_core.specs.declared.event.Event.TheVariants.{Command, Slot}
use Rattle.event_core.specs.declared.event.Why.{Why}
use Rattle.event_core.specs.declared.event.Why.TheVariants.{Spent, Fence, Waits}
use Rattle.event_core.specs.declared.event.Step.{Step}
use Rattle.event_core.specs.declared.event.Step.TheVariants.{Done, Disabled}

-- a setup, and the core over its tiles
pub record Engaged : Type 0 where
  pub setup : Setup
  pub core : CoreState TileState WordAndCredits

-- the tiles of a setup
abbrev pub hardware_of : Setup → Hardware TileState WordAndCredits
hardware_of setup = tile_hardware setup.world setup.loads

-- before the first event: no entry, every tile before its first slot, the idle flit on every link
abbrev pub first_core : Setup → Engaged
first_core setup = record { setup = setup; core = fresh_core (hardware_of setup) setup }

-- an event as one of the core over any tiles
abbrev pub happening_of : Event → Happening
happening_of (Command session) = Commands session
happening_of (Slot tile) = Slots tile

-- the core after an event; one that isn't enabled changes nothing
abbrev pub after_event : Engaged → Event → Engaged
after_event e event = record e { core = happens (hardware_of e.setup) e.setup e.core (happening_of event) }

-- the event's session or tile exists
abbrev pub Exists : Engaged → Event → Type 0
Exists e (Command session) = IsSession e.setup session
Exists e (Slot tile) = tile < length e.core.tiles

-- the first link, by its place among the platform's, that leads to a tile and holds no flit for it
abbrev pub first_waiting : ℕ → List (Line WordAndCredits) → Option ℕ
first_waiting tile lines = position (λ line. not (is_fed tile line)) lines

-- why a tile can't take its next slot, if it can't: the horizon is at or below the slot; or a link holds no
-- flit for it
abbrev pub hindered : ℕ → ℕ → Option ℕ → Option Why
hindered horizon at waiting = if nat_le horizon at then Some (Fence horizon) else option_map Waits waiting

-- why an event can't be done, if it can't: the session's script is used up, or the tile can't take its slot
abbrev pub why_not : Engaged → Event → Option Why
why_not e (Command session) = if is_some (next_entry e.setup e.core.history session) then None else Some Spent
why_not e (Slot number) =
    option_and_then (λ tile. hindered (horizon_of e.setup e.core.history) tile.at (first_waiting number e.core.lines))
    (slice_get e.core.tiles number)

-- what an event comes to
abbrev pub step_of : Engaged → Event → Step
step_of e event = option_map_or Disabled (why_not e event) Done

-- the event is enabled: its session or tile exists, and nothing hinders it
abbrev pub is_enabled : Engaged → Event → Bool
is_enabled e (Command session) = is_some (next_entry e.setup e.core.history session)
is_enabled e (Slot tile) = is_some (slice_get e.core.tiles tile) && not (is_some (why_not e (Slot tile)))

-- the core after events, one after the other
abbrev pub after_events : Engaged → List Event → Engaged
after_events e [] = e
after_events e (event ∷ rest) = after_events (after_event e event) rest

-- how many of them were enabled
abbrev pub enabled_count : Engaged → List Event → ℕ
enabled_count e [] = 0
enabled_count e (event ∷ rest) = (if is_enabled e event then 1 else 0) + enabled_count (after_event e event) rest
