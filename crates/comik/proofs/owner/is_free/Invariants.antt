use Rattle.std.proofs.Common.{◌≡◌, ℕ, ◌<◌, None, get_or}
use Rattle.std.specs.Int.{bit_at}
use Rattle.comik.proofs.owner.is_free.Given as goal

abbrev pub invariant-loop-slot : goal.invariant-loop-slot
invariant-loop-slot l = (slot : ℕ) → slot < l.slot → bit_at l.slots slot ≡ 1 → get_or l.owners slot None ≡ None
