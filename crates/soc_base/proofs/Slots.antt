-- A slot is among those of a set where its bit is set.
use Rattle.std.proofs.Common.{◌≡◌, ℕ, suc, zero, ◌+◌, ◌<◌, ◌≤◌, ◌==◌, Bool, true, false, cond, List, ◌∷◌, filter, refl, ap, ◌∙◌, inl, inr, arith}
use Rattle.std.proofs.lemmas.Bool.{cases_lt}
use Rattle.std.proofs.lemmas.Bool.Decides.{nat_tests}
use Rattle.std.specs.List.{range_with_len}
use Rattle.std.specs.Int.{bit_at}
use Rattle.soc_base.specs.Time.{is_among}
use Rattle.soc_base.specs.Slots.{slots_of}

-- a number below the first is not there where it isn't among the others
none_of : (k from : ℕ) (pass : Bool) (rest : List ℕ) → k < from → is_among k rest ≡ false → is_among k (cond pass (from ∷ rest) rest) ≡ false
none_of k from true rest low e = grind (arith, nat_tests)
none_of k from false rest low e = e

-- no number below a range is in it
below_range : (p : ℕ → Bool) (k from n : ℕ) → k < from → is_among k (filter p (range_with_len from n)) ≡ false
below_range p k from zero low = refl
below_range p k from (suc n) low = none_of k from (p from) (filter p (range_with_len (from + 1) n)) low (below_range p k (from + 1) n (omega arith))

-- a number past the first is among the others
past_first : (k from : ℕ) (pass : Bool) (rest : List ℕ) (found : Bool) → from < k → is_among k rest ≡ found → is_among k (cond pass (from ∷ rest) rest) ≡ found
past_first k from true rest found past e = grind (arith, nat_tests)
past_first k from false rest found past e = e

-- the first number is there where it passes
at_first : (k from : ℕ) (pass : Bool) (rest : List ℕ) → from ≡ k → is_among k rest ≡ false → is_among k (cond pass (from ∷ rest) rest) ≡ pass
at_first k from true rest same e = grind (arith, nat_tests)
at_first k from false rest same e = e

-- a number of a range is among those that pass where it passes
among_range : (p : ℕ → Bool) (k from n : ℕ) → from ≤ k → k < from + n → is_among k (filter p (range_with_len from n)) ≡ p k
among_range p k from zero low high = absurd (omega arith)
among_range p k from (suc n) low high =
    elim (cases_lt from k) [
      | inl past ↦
          let rest = among_range p k (from + 1) n (omega arith) (omega arith) in
          past_first k from (p from) (filter p (range_with_len (from + 1) n)) (p k) past rest
      | inr here ↦
          let same : from ≡ k = omega arith in
          let rest = below_range p k (from + 1) n (omega arith) in
          at_first k from (p from) (filter p (range_with_len (from + 1) n)) same rest ∙ ap p same
    ]

pub among_slots : (slots slot : ℕ) → slot < 16 → is_among slot (slots_of slots) ≡ (bit_at slots slot == 1)
unfolding slots_of
among_slots slots slot below = among_range (λ k. bit_at slots k == 1) slot 0 16 (omega arith) (omega arith)
