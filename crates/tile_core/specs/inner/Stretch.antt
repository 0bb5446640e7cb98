-- Several cycles of a tile in one stretch, past the microkernel's of an instance.
use Rattle.std.specs.Prelude.{ℕ, List, Option, Some, None}
use Rattle.soc_base.specs.Steps.{after_steps}
use Rattle.platform_model.specs.declared.costs.Costs.{Costs}
use Rattle.bundle_model.specs.declared.bundle.Part.{Part}
use Rattle.bundle_model.specs.declared.world.World.{World}
use Rattle.rv_core.specs.Registers.{Registers}
use Rattle.tile_memory.specs.Bytes.{region_bytes, with_region}
use Rattle.trace_log.specs.Log.{Log}
use Rattle.ni_port.specs.SizedPort.{SizedPort}
use Rattle.tile_mmio.specs.Ports.{own_ports, put_ports}
use Rattle.part_model.specs.Part.{PartState, part_cycle}
use Rattle.tile_core.specs.Tile.{TileState, place_at, load_part}
use Rattle.tile_core.specs.Cycle.{core_place, held_state, with_state}

-- a part after n cycles in each of which it runs
abbrev pub ran : Costs → ℕ → ℕ → Part → PartState → PartState
ran costs cycle n part state = after_steps (part_cycle costs (core_place part)) cycle n state

-- the same of a part by its words, its region of a memory, its ports of a tile's, and its log
abbrev pub ran_in : Costs → ℕ → ℕ → Part → Registers → ℕ → List ℕ → List SizedPort → Log → PartState
ran_in costs cycle n part regs left memory ports log =
    ran costs cycle n part (record {
      regs = regs;
      left = left;
      bytes = region_bytes memory part.region;
      ports = own_ports ports part.ports;
      log = log;
    })

-- the memory then
abbrev pub memory_ran : Costs → ℕ → ℕ → Part → Registers → ℕ → List ℕ → List SizedPort → Log → List ℕ
memory_ran costs cycle n part regs left memory ports log =
    with_region memory part.region (ran_in costs cycle n part regs left memory ports log).bytes

-- and the tile's ports
abbrev pub ports_ran : Costs → ℕ → ℕ → Part → Registers → ℕ → List ℕ → List SizedPort → Log → List SizedPort
ports_ran costs cycle n part regs left memory ports log =
    put_ports ports part.ports (ran_in costs cycle n part regs left memory ports log).ports

-- the tile after n cycles of the part that is held, if one is
abbrev pub ran_part : Costs → ℕ → ℕ → TileState → ℕ → Option Part → TileState
ran_part costs cycle n tile place None = tile
ran_part costs cycle n tile place (Some part) =
    with_state tile place part (ran costs cycle n part (held_state tile place part))

-- the same for the part of the load at a place
abbrev pub ran_place : (ℕ → Option Part) → Costs → ℕ → ℕ → TileState → Option ℕ → TileState
ran_place parts costs cycle n tile None = tile
ran_place parts costs cycle n tile (Some place) = ran_part costs cycle n tile place (parts place)

-- the same for the part with a number, if one is held
abbrev pub ran_held : (ℕ → Option Part) → Costs → ℕ → ℕ → TileState → Option ℕ → TileState
ran_held parts costs cycle n tile None = tile
ran_held parts costs cycle n tile (Some number) = ran_place parts costs cycle n tile (place_at tile number)

-- the same on a tile of a world
abbrev pub held_ran : World → ℕ → ℕ → TileState → TileState
held_ran world cycle n tile = ran_held (load_part world tile) world.platform.costs cycle n tile tile.kernel.held
