use Rattle.std.proofs.Common.{◌≡◌, ℕ, ◌<◌}
use Rattle.std.specs.Prelude.{IsTrue}
use mathlib.Core.List.{IsPrefix}
use Rattle.turn_lock.specs.Seen.{RestsAt}
use Rattle.vep_manager.specs.History.{is_used_up}
use Rattle.live_run.proofs.commits.commit_all.Given as goal

abbrev pub invariant-loop-session : goal.invariant-loop-session
invariant-loop-session g l =
    RestsAt l.shared l.pass × (l.pass.share ≡ l.fn.pass.share) × IsPrefix l.fn.pass.seen l.pass.seen
    × ((session : ℕ) → 0 < session → session < l.session → IsTrue (is_used_up l.shared.base l.pass.seen session))
