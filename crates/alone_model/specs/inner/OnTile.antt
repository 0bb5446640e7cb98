-- A part with a memory and ports of its own.
use Rattle.std.specs.Prelude.{List}
use Rattle.ni_port.specs.SizedPort.{SizedPort}
use Rattle.tile_memory.specs.Bytes.{region_bytes}
use Rattle.bundle_model.specs.declared.bundle.Part.{Part}
use Rattle.part_model.specs.Part.{PartState}
use Rattle.tile_mmio.specs.declared.run.PartOnTile.{PartOnTile}
use Rattle.tile_mmio.specs.Part.{view_of}
use Rattle.alone_model.specs.declared.part.Body.{Body}
use Rattle.alone_model.specs.App.{own_region}

-- what the part is
abbrev pub state_of : Part → Body → List SizedPort → PartState
state_of part body ports = record {
  regs = body.regs;
  left = body.left;
  bytes = region_bytes body.memory (own_region part);
  ports = ports;
  log = body.log;
}

-- what a part is on a tile all of whose ports are its own, in their order
abbrev pub own_state : PartOnTile → PartState
own_state p = record (view_of p) { ports = p.ports.now }
