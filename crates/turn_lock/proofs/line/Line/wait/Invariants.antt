use Rattle.std.proofs.Common.{◌≡◌}
use Rattle.turn_lock.proofs.line.Line.wait.Given as goal

abbrev pub invariant-loop : goal.invariant-loop
invariant-loop g l = (goal.iterator-loop g).can_next l.iterator' × (goal.iterator-loop g).is_finite l.iterator'
    × (l.hand.seat.table_id ≡ l.initial.hand.seat.table_id) × (l.hand.seat.me ≡ l.initial.hand.seat.me)
