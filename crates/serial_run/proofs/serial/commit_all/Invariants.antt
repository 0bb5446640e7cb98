use Rattle.std.proofs.Common.{◌≡◌}
use Rattle.serial_run.specs.inner.Rounds.{IsAtTurn}
use Rattle.serial_run.proofs.serial.commit_all.Given as goal

abbrev pub invariant-loop-round : goal.invariant-loop-round
invariant-loop-round l =
    (l.manager.setup ≡ l.fn.manager.setup) × IsAtTurn l.manager.setup l._round 1 l.manager.history
