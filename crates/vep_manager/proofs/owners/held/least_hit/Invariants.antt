use Rattle.std.proofs.Common.{◌≤◌, length}
use Rattle.vep_manager.specs.inner.Held.{IsLeastHit, hits}
use Rattle.vep_manager.proofs.owners.held.least_hit.Given as goal

abbrev pub invariant-loop-at : goal.invariant-loop-at
invariant-loop-at l = (l.at ≤ length l.row) × IsLeastHit (hits l.grants l.start l.resource) l.row l.at l.least

abbrev pub decreases-loop-at : goal.decreases-loop-at
decreases-loop-at l = l.at
