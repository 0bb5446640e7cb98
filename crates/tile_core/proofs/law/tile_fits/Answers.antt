use Rattle.tile_core.proofs.Fresh.{fresh_begins}
use Rattle.tile_core.proofs.Slots.{slot_goes_on}
use Rattle.tile_core.proofs.law.tile_fits.Goals as goal

pub returns-clause-first : goal.returns-clause-first
returns-clause-first c = fresh_begins

pub returns-clause-next : goal.returns-clause-next
returns-clause-next c = slot_goes_on
