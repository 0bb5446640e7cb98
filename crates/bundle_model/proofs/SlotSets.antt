-- A set that is made of ascending slots has just these slots.
use Rattle.std.proofs.Common.{◌≡◌, ℕ, ℤ, pos, negsuc, zero, suc, ◌+◌, ◌^◌, ◌<◌, ◌≤◌, ◌==◌, Bool, true, false, ◌&&◌, ◌||◌, List, [], ◌∷◌, fold, filter, map, bit_or, int_le, int_lt, refl, sym, ap, ◌∙◌, inl, inr, arith}
use Rattle.std.specs.Prelude.{nat_abs, ⊤}
use Rattle.std.specs.Int.{bit_at}
use Rattle.std.specs.List.{range_with_len}
use Rattle.std.proofs.lemmas.Bool.{and_parts, ltb-true, cases_lt, cases_eq, eq-eqb, ne_eqb}
use Rattle.std.proofs.lemmas.Bool.Decides.{nat_tests}
use Rattle.std.proofs.lemmas.Nat.Bits.{bit_at_or, bit_at-pow_same, bit_at-pow_other, bit_at-lt, bit_at-zero}
use Rattle.std.proofs.Math.Bool.{or_assoc}
use Rattle.soc_base.specs.Time.{is_among}
use Rattle.soc_base.specs.Slots.{slots_of}
use Rattle.bundle_model.specs.Sets.{slot_set}

-- the bit of a slot is set in a set to which one slot is joined where it was, or where it is the slot
bit_joined : (set slot k : ℕ) → (bit_at (bit_or set (2 ^ slot)) k == 1) ≡ ((bit_at set k == 1) || (slot == k))
bit_joined set slot k =
    let joined = bit_at_or set (2 ^ slot) k in
    elim (cases_eq k slot) [
      | inl same ↦
          let one : bit_at (2 ^ slot) k ≡ 1 = ap (bit_at (2 ^ slot)) same ∙ bit_at-pow_same slot in
          grind (arith, nat_tests, joined, one, bit_at-lt set k, same)
      | inr other ↦
          let none = bit_at-pow_other slot k other in
          grind (arith, nat_tests, joined, none, bit_at-lt set k, other)
    ]

-- the bits of a set to which slots are joined
bits_joined : (slots : List ℤ) (set k : ℕ) → (bit_at (fold (λ set slot. bit_or set (2 ^ nat_abs slot)) set slots) k == 1) ≡ ((bit_at set k == 1) || is_among k (map nat_abs slots))
bits_joined [] set k = grind arith
bits_joined (slot ∷ slots) set k =
    bits_joined slots (bit_or set (2 ^ nat_abs slot)) k
    ∙ ap (λ b. b || is_among k (map nat_abs slots)) (bit_joined set (nat_abs slot) k)
    ∙ or_assoc (bit_at set k == 1) (nat_abs slot == k) (is_among k (map nat_abs slots))

-- a bit of a set of slots is set where its slot is among them
pub bit_of_set : (slots : List ℤ) (k : ℕ) → (bit_at (slot_set slots) k == 1) ≡ is_among k (map nat_abs slots)
bit_of_set slots k =
    let empty : (bit_at 0 k == 1) ≡ false = ap (λ n. n == 1) (bit_at-zero k) in
    bits_joined slots 0 k ∙ ap (λ b. b || is_among k (map nat_abs slots)) empty

-- the numbers ascend, from `least` on, and are below `limit`
abbrev pub Rises : ℕ → ℕ → List ℕ → Type 0
Rises least limit [] = ⊤
Rises least limit (n ∷ ns) = (least ≤ n) × (n < limit) × Rises (n + 1) limit ns

pub rises_lower : (low least limit : ℕ) (ns : List ℕ) → low ≤ least → Rises least limit ns → Rises low limit ns
rises_lower low least limit [] below rises = tt
rises_lower low least limit (n ∷ ns) below (from, to, rest) = (omega arith, to, rest)

-- a number below all others is not among them
rises_none : (k least limit : ℕ) (ns : List ℕ) → k < least → Rises least limit ns → is_among k ns ≡ false
rises_none k least limit [] below rises = refl
rises_none k least limit (n ∷ ns) below (from, to, rest) =
    let first : (n == k) ≡ false = ne_eqb n k (λ e. omega arith) in
    rw first (rises_none k (n + 1) limit ns (omega arith) rest)

-- of a range, the numbers that pass a test are those of an ascending list of its numbers, where the
-- test passes just for the list's numbers
picked : (test : ℕ → Bool) (least count limit : ℕ) (ns : List ℕ) → limit ≡ least + count → Rises least limit ns → ((k : ℕ) → least ≤ k → k < limit → test k ≡ is_among k ns) → filter test (range_with_len least count) ≡ ns
picked test least zero limit [] end rises passes = refl
picked test least zero limit (n ∷ ns) end (from, to, rest) passes = absurd (omega arith)
picked test least (suc count) limit [] end rises passes =
    let first : test least ≡ false = passes least (omega arith) (omega arith) in
    let others = picked test (least + 1) count limit [] (omega arith) tt (λ k low high. passes k (omega arith) high) in
    rw first others
picked test least (suc count) limit (n ∷ ns) end (from, to, rest) passes =
    elim (cases_lt least n) [
      | inl below ↦
          let none : is_among least (n ∷ ns) ≡ false = rises_none least (least + 1) limit (n ∷ ns) (omega arith) (omega arith, to, rest) in
          let first : test least ≡ false = passes least (omega arith) (omega arith) ∙ none in
          let others = picked test (least + 1) count limit (n ∷ ns) (omega arith) (omega arith, to, rest) (λ k low high. passes k (omega arith) high) in
          rw first others
      | inr here ↦
          let same : n ≡ least = omega arith in
          let passed : test least ≡ true = passes least (omega arith) (omega arith) ∙ ap (λ b. b || is_among least ns) (eq-eqb n least same) in
          let apart : (k : ℕ) → least + 1 ≤ k → (n == k) ≡ false = λ k low. ne_eqb n k (λ e. omega arith) in
          let others = picked test (least + 1) count limit ns (omega arith) (rises_lower (least + 1) (n + 1) limit ns (omega arith) rest)
          (λ k low high. passes k (omega arith) high ∙ ap (λ b. b || is_among k ns) (apart k low)) in
          rw (passed, others) (ap (λ m. m ∷ ns) (sym same))
    ]

-- a set that is made of ascending slots below 16 has just these slots
pub slots_of-rises : (slots : List ℤ) → Rises 0 16 (map nat_abs slots) → slots_of (slot_set slots) ≡ map nat_abs slots
unfolding slots_of
slots_of-rises slots rises = picked (λ k. bit_at (slot_set slots) k == 1) 0 16 16 (map nat_abs slots) refl rises (λ k low high. bit_of_set slots k)

-- a number from 0 on that is below a limit
pub below_limit : (number : ℤ) (limit : ℕ) → (int_le (pos 0) number && int_lt number (pos limit)) ≡ true → nat_abs number < limit
below_limit (pos n) limit within = ltb-true n limit (and_parts (int_le (pos 0) (pos n)) (int_lt (pos n) (pos limit)) within).1
below_limit (negsuc n) limit within = cc
