-- One cycle of a tile.
use Rattle.std.specs.Prelude.{ℕ, nat_lt, slice_set, if◌then◌else◌, Option, Some, None}
use Rattle.soc_base.specs.Time.{offset_at}
use Rattle.platform_model.specs.declared.costs.Costs.{Costs}
use Rattle.bundle_model.specs.declared.bundle.Part.{Part}
use Rattle.comik.specs.declared.context.Context.{Context}
use Rattle.comik.specs.Table.{kernel_cycle}
use Rattle.tile_memory.specs.Bytes.{with_region}
use Rattle.tile_mmio.specs.Ports.{put_ports}
use Rattle.part_model.specs.declared.record.Place.{Place}
use Rattle.part_model.specs.Part.{PartState, part_cycle}
use Rattle.tile_core.specs.Tile.{TileState, place_at, state_with}

-- what stays of a part while it runs: its tile and the kinds of rows that it names
abbrev pub core_place : Part → Place
core_place part = record { tile = part.tile; kinds = part.kinds }

-- the words of a part's state
abbrev pub words_of : PartState → Context
words_of state = record { regs = state.regs; left = state.left }

-- the part that is held, at a place: its words are those of the register file
abbrev pub held_state : TileState → ℕ → Part → PartState
held_state tile place part = state_with tile place part tile.kernel.file

-- the tile after the part that is held came to a state
abbrev pub with_state : TileState → ℕ → Part → PartState → TileState
with_state tile place part state = record tile {
  kernel = record tile.kernel { file = words_of state };
  memory = with_region tile.memory part.region state.bytes;
  logs = slice_set tile.logs place state.log;
  ports = put_ports tile.ports part.ports state.ports;
}

-- The tile after a cycle of the part that is held, if one is: its number leads to the place of its load,
-- and that to the part. `parts` tells the part of the load at each place.
abbrev pub run_part : Costs → ℕ → TileState → ℕ → Option Part → TileState
run_part costs cycle tile place None = tile
run_part costs cycle tile place (Some part) =
    with_state tile place part (part_cycle costs (core_place part) cycle (held_state tile place part))

-- the same for the part of the load at a place
abbrev pub run_place : (ℕ → Option Part) → Costs → ℕ → TileState → Option ℕ → TileState
run_place parts costs cycle tile None = tile
run_place parts costs cycle tile (Some place) = run_part costs cycle tile place (parts place)

-- the same for the part with a number, if one is held
abbrev pub run_held : (ℕ → Option Part) → Costs → ℕ → TileState → Option ℕ → TileState
run_held parts costs cycle tile None = tile
run_held parts costs cycle tile (Some number) = run_place parts costs cycle tile (place_at tile number)

-- the tile after a cycle: the microkernel's row in the microkernel's cycles of an instance, and from there
-- on the cycle of the part that is held
unfoldable pub tile_cycle : (ℕ → Option Part) → Costs → ℕ → TileState → TileState
tile_cycle parts costs cycle tile =
    if nat_lt (offset_at tile.kernel.times cycle) tile.kernel.times.kernel
    then record tile { kernel = kernel_cycle tile.kernel cycle }
    else run_held parts costs cycle tile tile.kernel.held
