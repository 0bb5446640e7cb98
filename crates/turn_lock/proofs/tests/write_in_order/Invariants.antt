use Rattle.std.proofs.Common.{◌≡◌}
use Rattle.turn_lock.specs.Seen.{RestsAt}
use Rattle.turn_lock.proofs.tests.write_in_order.Given as goal

abbrev pub invariant-loop-written : goal.invariant-loop-written
invariant-loop-written g l = RestsAt l.turns l.first × RestsAt l.turns l.second × RestsAt l.turns l.third
    × (l.first.share ≡ l.fn.first.share) × (l.second.share ≡ l.fn.second.share) × (l.third.share ≡ l.fn.third.share)
