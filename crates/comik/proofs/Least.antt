-- The least slot of a set.
use Rattle.std.proofs.Common.{◌≡◌, ℕ, ◌<◌, ◌^◌, inl, inr, arith}
use Rattle.std.specs.Int.{bit_at, w16}
use Rattle.std.proofs.lemmas.Bool.{cases_lt}
use Rattle.std.proofs.lemmas.Nat.Bits.{bit_at-trailing_zeros, bit_at_above}
use Rattle.comik.specs.Kernel.{least_slot}

-- it is in the set
pub least_is_in : (slots : ℕ) → 0 < slots → slots < 65536 → bit_at slots (least_slot slots) ≡ 1
least_is_in slots some fits = (bit_at-trailing_zeros w16 slots some fits).1

-- and below each bound of the set
pub least_below : (slots count : ℕ) → 0 < slots → slots < 65536 → slots < 2 ^ count → least_slot slots < count
least_below slots count some fits below = elim (cases_lt (least_slot slots) count) [
  | inl low ↦ low
  | inr high ↦
      let one = least_is_in slots some fits in
      let none = bit_at_above slots count (least_slot slots) below high in
      absurd (omega arith)
]
