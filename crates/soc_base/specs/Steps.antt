-- A state after a number of steps.
use Rattle.std.specs.Prelude.{ℕ, zero, suc, ◌+◌}

-- the state after n steps from number `from` on: step `from`, then step `from + 1`, and so on to
-- step `from + n - 1`. A step is a cycle or a slot.
unfoldable pub after_steps : {S : Type 0} → (ℕ → S → S) → ℕ → ℕ → S → S
after_steps step from zero s = s
after_steps step from (suc n) s = step (from + n) (after_steps step from n s)
