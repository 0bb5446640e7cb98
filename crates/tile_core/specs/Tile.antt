-- A tile between two slots, and what can be asked of it.
use Rattle.std.specs.Prelude.{ℕ, ◌*◌, ◌==◌, Bool, false, List, filter, get_or, if◌then◌else◌, map, option_map, position, replicate, slice_get, Option, Some, None, is_some}
use Rattle.std.specs.Option.{option_and_then, option_map_or}
use Rattle.soc_base.specs.Time.{offset_at}
use Rattle.soc_base.specs.declared.label.Label.{Label}
use Rattle.platform_model.specs.Platform.{frame_of}
use Rattle.bundle_model.specs.declared.bundle.Part.{Part}
use Rattle.bundle_model.specs.declared.world.World.{World}
use Rattle.bundle_model.specs.declared.world.LoadName.{LoadName}
use Rattle.bundle_model.specs.World.{same_label, part_on}
use Rattle.comik.specs.declared.context.Context.{Context}
use Rattle.comik.specs.Kernel.{KernelState, fresh_kernel, least_slot}
use Rattle.comik.specs.Switching.{context_of}
use Rattle.tile_memory.specs.Bytes.{region_bytes}
use Rattle.trace_log.specs.Log.{Log, new_log}
use Rattle.soc_base.specs.Port.{free_port}
use Rattle.ni_port.specs.SizedPort.{SizedPort}
use Rattle.tile_mmio.specs.Ports.{own_ports}
use Rattle.tdm_network.specs.declared.rows.Row.{Row}
use Rattle.tdm_network.specs.Rows.{free_rows}
use Rattle.part_model.specs.Part.{PartState}

-- A tile: its number; its next slot; its microkernel, with the register file and the frames; the bytes of
-- its memory; for each part number the place, among the tile's loads, of the load whose part is installed
-- with that number; the loads of the run that have a part on the tile, in their order; the log of each of
-- these parts; the ports of its network interface; its slot tables; and for each output how many flits other
-- than idle it carried. The loads never change.
pub record TileState : Type 0 where
  pub number : ℕ
  pub at : ℕ
  pub kernel : KernelState
  pub memory : List ℕ
  pub places : List (Option ℕ)
  pub loads : List LoadName
  pub logs : List Log
  pub ports : List SizedPort
  pub tables : List Row
  pub carried : List ℕ

-- the loads that have a part on a tile
abbrev pub loads_on : World → ℕ → List LoadName → List LoadName
loads_on world number loads = filter (λ load. is_some (part_on world number load.bundle)) loads

-- the log of a load's part on a tile before its application is granted
abbrev pub fresh_log : World → ℕ → LoadName → Log
fresh_log world number load = new_log (option_map_or (λ part. part.trace) (part_on world number load.bundle) 0)

-- a port that no application holds, with so many places in each queue
abbrev pub free_sized : ℕ → SizedPort
free_sized queue = record { queue = queue; port = free_port }

-- a tile before its first slot: its memory, its register file and its frames are zero, nothing is
-- installed, its ports and its slot tables are free, and nothing was carried
unfoldable pub fresh_tile : World → List LoadName → ℕ → TileState
fresh_tile world loads number = record {
  number = number;
  at = 0;
  kernel = fresh_kernel (frame_of world.platform);
  memory = replicate world.platform.mem_bytes 0;
  places = replicate world.platform.partition_slots None;
  loads = loads_on world number loads;
  logs = map (fresh_log world number) (loads_on world number loads);
  ports = replicate world.platform.ports (free_sized world.platform.queue);
  tables = free_rows world.platform.table_slots;
  carried = replicate 7 0;
}

-- the number of a part: the least of its partition slots
abbrev pub number_of : Part → ℕ
number_of part = least_slot part.slots

-- the place of the load whose part is installed with a number
abbrev pub place_at : TileState → ℕ → Option ℕ
place_at tile number = get_or tile.places number None

-- the log at a place
abbrev pub log_at : TileState → ℕ → Log
log_at tile place = get_or tile.logs place (new_log 0)

-- the part, on the tile, of the load at a place
abbrev pub load_part : World → TileState → ℕ → Option Part
load_part world tile place =
    option_and_then (λ load. part_on world tile.number load.bundle) (slice_get tile.loads place)

-- the place of a load, if it has a part on the tile
abbrev pub load_place : TileState → Label → Option ℕ
load_place tile label = position (λ load. same_label load.label label) tile.loads

-- the load whose part is installed with a number
abbrev pub owner_of : TileState → ℕ → Option Label
owner_of tile number = option_map (λ load. load.label) (option_and_then (slice_get tile.loads) (place_at tile number))

-- the log of a load's part on the tile
abbrev pub log_of : TileState → Label → Option Log
log_of tile label = option_and_then (slice_get tile.logs) (load_place tile label)

-- a part as it is with these words: registers, cycles left, the bytes of its region, its ports, its log
abbrev pub state_with : TileState → ℕ → Part → Context → PartState
state_with tile place part words = record {
  regs = words.regs;
  left = words.left;
  bytes = region_bytes tile.memory part.region;
  ports = own_ports tile.ports part.ports;
  log = log_at tile place;
}

-- the words of an installed part at the beginning of the tile's next slot, in the register file or in its
-- frame
abbrev pub words_at : World → TileState → Part → Context
words_at world tile part =
    context_of tile.kernel (offset_at (frame_of world.platform) (tile.at * world.platform.slot_cycles)) (number_of part)

-- whether the part is installed that the load at a place has on the tile
abbrev pub is_installed : TileState → ℕ → Part → Bool
is_installed tile place part = option_map_or (λ other. other == place) (place_at tile (number_of part)) false

-- an installed part as its application sees it
abbrev pub state_if : World → TileState → ℕ → Option Part → Option PartState
state_if world tile place None = None
state_if world tile place (Some part) =
    if is_installed tile place part then Some (state_with tile place part (words_at world tile part)) else None

-- the installed part of the load at a place
abbrev pub state_at : World → TileState → ℕ → Option PartState
state_at world tile place = state_if world tile place (load_part world tile place)

-- the installed part of a load on the tile; none where it isn't installed
abbrev pub state_of : World → TileState → Label → Option PartState
state_of world tile label = option_and_then (state_at world tile) (load_place tile label)
