use Rattle.std.proofs.Common.{◌≡◌}
use Rattle.turn_lock.specs.Seen.{RestsAt}
use Rattle.turn_lock.proofs.tests.write_thousand.Given as goal

abbrev pub invariant-loop-number : goal.invariant-loop-number
invariant-loop-number g l = RestsAt l.turns l.pass × (l.pass.share ≡ l.fn.pass.share)
