-- What a part on a tile stands for.
use Rattle.std.specs.Prelude.{ℕ, ◌+◌, List, take, drop, length}
use Rattle.std.specs.Borrow.{GName}
use Rattle.soc_base.specs.declared.region.Region.{Region}
use Rattle.tile_memory.specs.Bytes.{region_bytes}
use Rattle.ni_port.specs.SizedPort.{SizedPort}
use Rattle.part_model.specs.Part.{PartState}
use Rattle.tile_mmio.specs.Ports.{own_ports, other_ports}
use Rattle.tile_mmio.specs.declared.run.PartOnTile.{PartOnTile}

-- the part as its application sees it: its registers, the cycles that are left, the bytes of its region,
-- its own ports and its log
abbrev pub view_of : PartOnTile → PartState
view_of p = record {
  regs = p.regs.now;
  left = p.left.now;
  bytes = region_bytes p.memory.now p.region;
  ports = own_ports p.ports.now p.map.now;
  log = p.log.now;
}

-- what no cycle of the part changes: the loans, the region, the bytes before and after it, the memory's
-- size, the numbers of the part's ports, and the tile's other ports
abbrev pub rest_of : PartOnTile → (GName × GName × GName × GName × GName) × Region × List ℕ × List ℕ × ℕ × List ℕ × List SizedPort
rest_of p = (
  (p.regs.ghost_name, p.left.ghost_name, p.memory.ghost_name, p.ports.ghost_name, p.log.ghost_name),
  p.region,
  take p.region.base p.memory.now,
  drop (p.region.base + p.region.len) p.memory.now,
  length p.memory.now,
  p.map.now,
  other_ports p.ports.now p.map.now,
)
