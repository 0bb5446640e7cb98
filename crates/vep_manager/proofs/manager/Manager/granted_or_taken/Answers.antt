use Rattle.vep_manager.proofs.Keeping.{kept_small}
use Rattle.vep_manager.proofs.manager.Manager.granted_or_taken.Goals as goal

pub first_conflict-requires : goal.first_conflict-requires
first_conflict-requires c = kept_small c.self.invariant.0
