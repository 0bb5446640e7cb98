use Rattle.std.proofs.Common.{◌≡◌}
use Rattle.vep_manager.proofs.tests.owners.grant_all.Given as goal

abbrev pub invariant-loop-load : goal.invariant-loop-load
invariant-loop-load l = l.setup ≡ l.index.setup
