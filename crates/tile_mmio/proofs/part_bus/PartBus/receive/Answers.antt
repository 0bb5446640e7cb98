use Rattle.std.proofs.Common.{refl}
use Rattle.tile_mmio.specs.State.{bus_state}
use Rattle.tile_mmio.proofs.Refusals.{none_taken}
use Rattle.tile_mmio.proofs.part_bus.PartBus.receive.Goals as goal

-- no word was received
pub returns-in-Err-clause-state : goal.returns-in-Err-clause-state
returns-in-Err-clause-state c =
    let h = c.in-Err.ensures in
    none_taken (bus_state c.args.self.now) c.args.number c.from.result c.index-ports-from.result c.take.new.self c.from.ensures c.requires (h.empty.0 refl) h.port
