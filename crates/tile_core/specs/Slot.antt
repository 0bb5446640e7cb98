-- One slot of a tile.
use Rattle.std.specs.Prelude.{ℕ, ◌+◌, ◌*◌, ◌==◌, Bool, ◌&&◌, not, List, [], ◌∷◌, filter, find, fold, get_or, if◌then◌else◌, map, slice_set, Option, Some, None, is_some}
use Rattle.std.specs.Option.{option_and_then, option_map_or}
use Rattle.soc_base.specs.Steps.{after_steps}
use Rattle.soc_base.specs.Port.{WordAndCredits, idle, inject}
use Rattle.soc_base.specs.declared.label.Label.{Label}
use Rattle.bundle_model.specs.declared.bundle.Part.{Part}
use Rattle.bundle_model.specs.declared.world.World.{World}
use Rattle.bundle_model.specs.declared.world.Grant.{Grant}
use Rattle.bundle_model.specs.World.{same_label}
use Rattle.comik.specs.Parts.{prepared, cleared}
use Rattle.tile_memory.specs.Bytes.{with_region, filled_bytes}
use Rattle.ni_port.specs.SizedPort.{SizedPort, granted_sized, after_inject, after_deliver}
use Rattle.tile_mmio.specs.Ports.{no_port, put_ports}
use Rattle.tdm_network.specs.declared.routing.Outputs.{Outputs}
use Rattle.tdm_network.specs.declared.routing.Delivery.{Delivery}
use Rattle.tdm_network.specs.Rows.{injecting}
use Rattle.tdm_network.specs.Routing.{routed}
pub use Rattle.grant_tables.specs.Turns.{ends_in, begins_in}
use Rattle.grant_tables.specs.Tables.{tables_after}
use Rattle.tile_core.specs.Tile.{TileState, number_of, load_part, load_place, free_sized}
use Rattle.tile_core.specs.Cycle.{tile_cycle}

-- the grant of a load, if it is granted
abbrev pub grant_of : List Grant → Label → Option Grant
grant_of grants label = find (λ grant. same_label grant.label label) grants

-- a tile's ports with this one in the place of each port of a part
abbrev pub with_each : SizedPort → List ℕ → List SizedPort → List SizedPort
with_each port numbers ports = put_ports ports numbers (map (λ number. port) numbers)

-- a part leaves: the microkernel clears it, and its ports are free. Its log stays, and so does its memory.
abbrev pub removed : World → TileState → Part → TileState
removed world tile part = record tile {
  kernel = cleared tile.kernel (number_of part);
  places = slice_set tile.places (number_of part) None;
  ports = with_each (free_sized world.platform.queue) part.ports tile.ports;
}

-- the same, where there is a part
abbrev pub removed_if : World → TileState → Option Part → TileState
removed_if world tile None = tile
removed_if world tile (Some part) = removed world tile part

-- the part of a grant's load leaves, if the load has a part on the tile
abbrev pub after_end : World → TileState → Grant → TileState
after_end world tile grant =
    removed_if world tile (option_and_then (load_part world tile) (load_place tile grant.label))

-- First: the part of each grant that ends in the slot, one after the other.
abbrev pub with_ends : World → List Grant → TileState → TileState
with_ends world grants tile = fold (after_end world) tile (filter (ends_in tile.at) grants)

-- the part of the load at a place is installed: the microkernel prepares it, its region holds the image and
-- then zeros, and its ports are empty and have their credit
abbrev pub installed : World → TileState → ℕ → Part → TileState
installed world tile place part = record tile {
  kernel = prepared tile.kernel part.slots part.entry;
  memory = with_region tile.memory part.region (filled_bytes part.region.len part.image);
  places = slice_set tile.places (number_of part) (Some place);
  ports = with_each (granted_sized world.platform.queue) part.ports tile.ports;
}

-- the same, where there is a part
abbrev pub installed_if : World → TileState → ℕ → Option Part → TileState
installed_if world tile place None = tile
installed_if world tile place (Some part) = installed world tile place part

-- the same for the part of the load at a place, where there is a place
abbrev pub installed_at : World → TileState → Option ℕ → TileState
installed_at world tile None = tile
installed_at world tile (Some place) = installed_if world tile place (load_part world tile place)

-- the part of a grant's load is installed, if the load has a part on the tile
abbrev pub after_start : World → TileState → Grant → TileState
after_start world tile grant = installed_at world tile (load_place tile grant.label)

-- Second: the part of each grant that begins in the slot, one after the other.
abbrev pub with_starts : World → List Grant → TileState → TileState
with_starts world grants tile = fold (after_start world) tile (filter (begins_in tile.at) grants)

-- the tile with the slot tables of its next slot: without the entries of the grants that end in it, and with
-- those of the grants that begin in it
abbrev pub with_tables : World → List Grant → TileState → TileState
with_tables world grants tile =
    record tile { tables = tables_after world tile.number grants tile.at tile.tables }

-- the tile once the grants of its slot have ended and begun
abbrev pub with_grants : World → List Grant → TileState → TileState
with_grants world grants tile = with_tables world grants (with_starts world grants (with_ends world grants tile))

-- a tile's ports after one of them changed, if one does
abbrev pub with_port : (SizedPort → SizedPort) → Option ℕ → List SizedPort → List SizedPort
with_port change None ports = ports
with_port change (Some number) ports = slice_set ports number (change (get_or ports number no_port))

-- Third: the port that the inject table names for the slot injects.
abbrev pub with_injection : TileState → TileState
with_injection tile = record tile { ports = with_port after_inject (injecting tile.tables tile.at) tile.ports }

-- the flit that the tile injects then
abbrev pub injected_flit : TileState → WordAndCredits
injected_flit tile =
    option_map_or (λ number. (inject (get_or tile.ports number no_port).port).0) (injecting tile.tables tile.at) idle

-- the tile after so many cycles, one by one
abbrev pub cycled : World → ℕ → ℕ → TileState → TileState
cycled world cycle n tile = after_steps (tile_cycle (load_part world tile) world.platform.costs) cycle n tile

-- Fourth: the cycles of the slot.
abbrev pub with_cycles : World → TileState → TileState
with_cycles world tile = cycled world (tile.at * world.platform.slot_cycles) world.platform.slot_cycles tile

-- the tile after a delivery, if there is one
abbrev pub with_delivery : Option Delivery → TileState → TileState
with_delivery None tile = tile
with_delivery (Some delivery) tile =
    record tile { ports = with_port (after_deliver delivery.flit) (Some delivery.port) tile.ports }

-- neither a word nor credits
abbrev pub is_idle : WordAndCredits → Bool
is_idle flit = not (is_some flit.word) && flit.credits == 0

-- the counts of what outputs carried, after these flits
abbrev pub counted : List WordAndCredits → List ℕ → List ℕ
counted (flit ∷ flits) (count ∷ counts) =
    (if is_idle flit then count else count + 1) ∷ counted flits counts
counted (flit ∷ flits) [] = []
counted [] counts = counts

-- what the tile, once the grants of its slot have ended and begun, puts on its outputs for the slot after,
-- and what is delivered to its ports at the end of this one
abbrev pub traffic : List WordAndCredits → TileState → Outputs
traffic inputs tile = routed tile.tables tile.at inputs (injected_flit tile)

-- Fifth: the delivery at the end of the slot; and the outputs are counted.
abbrev pub with_traffic : Outputs → TileState → TileState
with_traffic outputs tile =
    record (with_delivery outputs.deliver tile) { carried = counted outputs.links tile.carried }

-- the tile after its next slot, with these flits on its inputs
unfoldable pub tile_slot : World → List Grant → List WordAndCredits → TileState → TileState
tile_slot world grants inputs tile =
    let ready = with_grants world grants tile in
    let done = with_traffic (traffic inputs ready) (with_cycles world (with_injection ready)) in
    record done { at = tile.at + 1 }

-- what the tile puts on its outputs in its next slot, for the slot after
unfoldable pub slot_outputs : World → List Grant → List WordAndCredits → TileState → List WordAndCredits
slot_outputs world grants inputs tile = (traffic inputs (with_grants world grants tile)).links
