-- A part of its own, beside the cycles and slots of a tile.
use Rattle.std.specs.Prelude.{ℕ, ◌+◌, ◌*◌, ◌==◌, false, List, map, slice_get, if◌then◌else◌, Option, Some, None}
use Rattle.std.specs.Option.{option_and_then, option_map_or}
use Rattle.soc_base.specs.Time.{FrameTimes, runs}
use Rattle.soc_base.specs.Slots.{slots_of}
use Rattle.soc_base.specs.Steps.{after_steps}
use Rattle.platform_model.specs.declared.costs.Costs.{Costs}
use Rattle.platform_model.specs.Platform.{frame_of}
use Rattle.bundle_model.specs.declared.bundle.Part.{Part}
use Rattle.bundle_model.specs.declared.world.World.{World}
use Rattle.bundle_model.specs.declared.world.Grant.{Grant}
use Rattle.rv_core.specs.Registers.{fresh_registers}
use Rattle.tile_memory.specs.Bytes.{filled_bytes}
use Rattle.trace_log.specs.Log.{Log}
use Rattle.part_model.specs.Part.{PartState, part_cycle}
use Rattle.tile_core.specs.Tile.{TileState, load_part}
use Rattle.tile_core.specs.Cycle.{core_place}
use Rattle.soc_base.specs.Port.{WordAndCredits, idle}
use Rattle.ni_port.specs.SizedPort.{SizedPort, granted_sized, after_inject, after_deliver}
use Rattle.tile_mmio.specs.Ports.{each_port}
use Rattle.tdm_network.specs.declared.routing.Delivery.{Delivery}
use Rattle.tdm_network.specs.Rows.{injecting}
use Rattle.tdm_network.specs.Routing.{routed}
use Rattle.grant_tables.specs.Tables.{tables_after}
use Rattle.tile_core.specs.Slot.{grant_of, begins_in}
use Rattle.bundle_model.specs.Grants.{stands_at}

-- a part after a cycle, where its application is granted from cycle `start` on
abbrev pub granted_step : FrameTimes → Costs → ℕ → ℕ → Part → PartState → PartState
granted_step times costs cycle start part view =
    if runs times (slots_of part.slots) start cycle then part_cycle costs (core_place part) cycle view else view

-- the same, where it may not be granted, or not be there
abbrev pub view_step : FrameTimes → Costs → ℕ → Option ℕ → Option Part → PartState → PartState
view_step times costs cycle None part view = view
view_step times costs cycle (Some start) None view = view
view_step times costs cycle (Some start) (Some part) view = granted_step times costs cycle start part view

-- after so many cycles
abbrev pub view_cycles : FrameTimes → Costs → Option ℕ → Option Part → ℕ → ℕ → PartState → PartState
view_cycles times costs granted part cycle n view =
    after_steps (λ c s. view_step times costs c granted part s) cycle n view

-- a part when its application is granted, with the log that it has
abbrev pub opening_view : World → Part → Log → PartState
opening_view world part log = record {
  regs = fresh_registers part.entry;
  left = 0;
  bytes = filled_bytes part.region.len part.image;
  ports = map (λ port. granted_sized world.platform.queue) part.ports;
  log = log;
}

-- what the network does with the ports of a tile in a slot: which one injects, and what is delivered to which
pub record Exchange : Type 0 where
  pub sends : Option ℕ
  pub receives : Option Delivery

-- a port after the injection of a slot
abbrev pub sent : Exchange → ℕ → SizedPort → SizedPort
sent exchange number port = if option_map_or (λ n. n == number) exchange.sends false then after_inject port else port

-- a port after the delivery of a slot
abbrev pub reached : Exchange → ℕ → SizedPort → SizedPort
reached exchange number port =
    option_map_or (λ d. if d.port == number then after_deliver d.flit port else port) exchange.receives port

-- a part with its ports changed by their numbers
abbrev pub with_own : (ℕ → SizedPort → SizedPort) → Part → PartState → PartState
with_own change part view = record view { ports = each_port change part.ports view.ports }

-- a part after so many cycles, where its application is granted from cycle `start` on
abbrev pub granted_cycles : World → ℕ → Part → ℕ → ℕ → PartState → PartState
granted_cycles world start part cycle n view =
    after_steps (λ c s. granted_step (frame_of world.platform) world.platform.costs c start part s) cycle n view

-- a part once the grants of a slot have ended and begun
abbrev pub opened_view : World → ℕ → Grant → Part → PartState → PartState
opened_view world slot grant part view =
    if begins_in slot grant then opening_view world part view.log else view

-- A part after a slot: where its grant begins in the slot, it is as when its application is granted; and
-- where the grant stands at the end of the slot, its ports inject, it has the slot's cycles, and its ports
-- receive.
abbrev pub view_slot : World → ℕ → Exchange → Option Grant → Option Part → PartState → PartState
view_slot world slot exchange None part view = view
view_slot world slot exchange (Some grant) None view = view
view_slot world slot exchange (Some grant) (Some part) view =
    let len = world.platform.slot_cycles in
    let opened = opened_view world slot grant part view in
    if stands_at (slot + 1) grant
    then with_own (reached exchange) part
    (granted_cycles world (grant.start * len) part (slot * len) len (with_own (sent exchange) part opened))
    else view

-- what the network does with the ports of a tile in its next slot, with these flits on its inputs
abbrev pub slot_exchange : World → List Grant → List WordAndCredits → TileState → Exchange
slot_exchange world grants inputs tile =
    let rows = tables_after world tile.number grants tile.at tile.tables in
    record { sends = injecting rows tile.at; receives = (routed rows tile.at inputs idle).deliver }

-- the grant of the load at a place of a tile
abbrev pub place_grant : List Grant → TileState → ℕ → Option Grant
place_grant grants tile place = option_and_then (λ load. grant_of grants load.label) (slice_get tile.loads place)

-- the parts of a tile's loads, each after the tile's next slot
abbrev pub views_slot : World → List Grant → List WordAndCredits → TileState → (ℕ → PartState) → ℕ → PartState
views_slot world grants inputs tile view place =
    view_slot world tile.at (slot_exchange world grants inputs tile) (place_grant grants tile place)
    (load_part world tile place) (view place)
