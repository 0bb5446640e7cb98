use Rattle.std.proofs.Common.{◌<◌, length}
use Rattle.vep_manager.specs.inner.Held.{IsInOrderBut, HoldAlike}
use Rattle.vep_manager.proofs.owners.held.settle.Given as goal

abbrev pub invariant-loop-row : goal.invariant-loop-row
invariant-loop-row l = (l.at < length l.row) × IsInOrderBut l.at l.row × HoldAlike l.row l.fn.row

abbrev pub decreases-loop-row : goal.decreases-loop-row
decreases-loop-row l = l.at
