use Rattle.std.proofs.Common.{◌≡◌}
use mathlib.Core.List.{IsPrefix}
use Rattle.turn_lock.specs.Seen.{RestsAt}
use Rattle.live_run.proofs.commits.commit_session.Given as goal

abbrev pub invariant-loop : goal.invariant-loop
invariant-loop g l =
    (goal.iterator-loop g).can_next l.iterator' × (goal.iterator-loop g).is_finite l.iterator'
    × RestsAt l.fn.shared l.pass × (l.pass.share ≡ l.fn.pass.share) × IsPrefix l.fn.pass.seen l.pass.seen
