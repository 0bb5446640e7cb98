use Rattle.alone_model.proofs.Cycle.{alone_is_slots}
use Rattle.alone_model.proofs.law.alone_is_slots.Goals as goal

pub returns : goal.returns
returns c = alone_is_slots
