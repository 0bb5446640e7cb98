use Rattle.tile_core.proofs.Fresh.{holds_first}
use Rattle.tile_core.proofs.Slots.{slot_ports, slot_holds}
use Rattle.tile_core.proofs.law.tile_holds.Goals as goal

pub returns-clause-first : goal.returns-clause-first
returns-clause-first c = holds_first

pub returns-clause-ports : goal.returns-clause-ports
returns-clause-ports c = slot_ports

pub returns-clause-next : goal.returns-clause-next
returns-clause-next c = slot_holds
