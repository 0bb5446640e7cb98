use Rattle.std.proofs.Common.{length}
use Rattle.bundle_model.proofs.path.+leads.Given as goal

abbrev pub decreases-leads : goal.decreases-leads
decreases-leads l = length l.path.now
