use Rattle.std.proofs.Common.{length}
use Rattle.bundle_model.proofs.broken.+ascend.Given as goal

abbrev pub decreases-ascend : goal.decreases-ascend
decreases-ascend l = length l.numbers.now
