use Rattle.std.proofs.Common.{◌≡◌, ℕ, false}
use Rattle.serial_run.specs.inner.Rounds.{IsAtTurn}
use Rattle.serial_run.proofs.serial.round.Given as goal

abbrev pub invariant-loop-session : goal.invariant-loop-session
invariant-loop-session l =
    (l.manager.setup ≡ l.fn.manager.setup)
    × ((rounds : ℕ) → IsAtTurn l.fn.manager.setup rounds 1 l.fn.manager.history
    → IsAtTurn l.manager.setup rounds l.session l.manager.history)
    × (l.busy ≡ false → l.manager.history ≡ l.fn.manager.history)
