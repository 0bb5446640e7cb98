use Rattle.std.proofs.Common.{refl}
use Rattle.tile_mmio.specs.State.{bus_state}
use Rattle.tile_mmio.proofs.Refusals.{none_put}
use Rattle.tile_mmio.proofs.part_bus.PartBus.send.Goals as goal

-- the queue is full
pub returns-in-Err-clause-state : goal.returns-in-Err-clause-state
returns-in-Err-clause-state c =
    let h = c.in-Err.ensures in
    none_put (bus_state c.args.self.now) c.args.number c.from.result c.index-ports-from.result c.put.new.self c.args.word c.from.ensures c.requires (h.full.0 refl) h.port
