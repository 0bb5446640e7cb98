-- What the bus of a part stands for.
use Rattle.std.specs.Prelude.{ℕ, ◌+◌, List, take, drop, length}
use Rattle.std.specs.Borrow.{GName}
use Rattle.soc_base.specs.declared.region.Region.{Region}
use Rattle.tile_memory.specs.Bytes.{region_bytes}
use Rattle.ni_port.specs.SizedPort.{SizedPort}
use Rattle.trace_log.specs.Log.{Log}
use Rattle.part_model.specs.Answers.{BusState}
use Rattle.tile_mmio.specs.declared.part_bus.PartBus.{PartBus}

-- what the bus of a part holds in a cycle: the bytes of the part's region of a memory, the tile's ports and
-- the numbers of the part's, its log, its tile and the kinds of rows that it names
abbrev pub bus_on : List ℕ → Region → List SizedPort → List ℕ → Log → ℕ → ℕ → ℕ → BusState
bus_on memory region ports map log tile kinds cycle = record {
  bytes = region_bytes memory region;
  ports = ports;
  numbers = map;
  log = log;
  place = record { tile = tile; kinds = kinds };
  cycle = cycle;
}

-- what a bus holds
abbrev pub bus_state : PartBus → BusState
bus_state b =
    bus_on b.memory.now b.region b.ports.now b.map.now b.log.now b.place.tile b.place.kinds b.cycle

-- the whole memory that the region lies in
abbrev pub bus_memory : PartBus → List ℕ
bus_memory b = b.memory.now

-- the part's region of it
abbrev pub bus_region : PartBus → Region
bus_region b = b.region

-- the memory, the ports and the log that the bus borrows
abbrev pub bus_loans : PartBus → GName × GName × GName
bus_loans b = (b.memory.ghost_name, b.ports.ghost_name, b.log.ghost_name)

-- what no access changes: the loans, the region, the bytes before and after it, the memory's size, and the
-- numbers of the part's ports
abbrev pub bus_rest : PartBus → (GName × GName × GName) × Region × List ℕ × List ℕ × ℕ × List ℕ
bus_rest b = (
  bus_loans b,
  b.region,
  take b.region.base b.memory.now,
  drop (b.region.base + b.region.len) b.memory.now,
  length b.memory.now,
  b.map.now,
)
