use Rattle.std.proofs.Common.{length}
use Rattle.soc_base.proofs.twins.+has_twin.Given as goal

abbrev pub decreases-has_twin : goal.decreases-has_twin
decreases-has_twin g l = length l.items.now
