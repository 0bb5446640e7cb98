-- What raw numbers mean that keep the rules: numbers in range, and lists of them.
use Rattle.std.proofs.Common.{◌≡◌, ℕ, ℤ, pos, negsuc, ◌<◌, ◌≤◌, true, ◌&&◌, nat_eq, List, [], ◌∷◌, map, int_le, int_lt, refl, sym, inl, inr, ap, ap₂, ◌∙◌, arith}
use Rattle.std.specs.Prelude.{nat_abs}
use Rattle.std.specs.List.{list_all, AllByRecursion}
use Rattle.std.specs.Ordering.{int_eq}
use Rattle.std.proofs.lemmas.Bool.{and_parts, and_from, cases_eq, ltb-true, eq-eqb, le-leb, false_from_ne_true, ne_eqb}
use Rattle.std.proofs.lemmas.Bool.Decides.{Decides-int_eq}
use Rattle.soc_base.specs.Twins.{has_twin}
use Rattle.platform_model.specs.Limits.{is_within}
use Rattle.bundle_model.proofs.Twins.{twins_same, twins_map}

-- a raw number from 0 on that is below a limit
abbrev pub IsBelow : ℕ → ℤ → Type 0
IsBelow limit number = (n : ℕ) × (number ≡ pos n) × (n < limit)

pub below_from : (number : ℤ) (limit : ℕ) → (int_le (pos 0) number && int_lt number (pos limit)) ≡ true → IsBelow limit number
below_from (pos n) limit within = (n, refl, ltb-true n limit (and_parts (int_le (pos 0) (pos n)) (int_lt (pos n) (pos limit)) within).1)
below_from (negsuc n) limit within = cc

pub all_below : (limit : ℕ) (numbers : List ℤ) → list_all (λ number. int_le (pos 0) number && int_lt number (pos limit)) numbers ≡ true → AllByRecursion (IsBelow limit) numbers
all_below limit [] all = tt
all_below limit (number ∷ numbers) all =
    let both = and_parts (int_le (pos 0) number && int_lt number (pos limit)) (list_all (λ n. int_le (pos 0) n && int_lt n (pos limit)) numbers) all in
    (below_from number limit both.0, all_below limit numbers both.1)

-- so it fits in a byte
pub is_byte : (number : ℤ) (limit : ℕ) → limit ≤ 256 → IsBelow limit number → is_within number (pos 0) (pos 255) ≡ true
is_byte number limit few (n, is, low) =
    ap (λ z. is_within z (pos 0) (pos 255)) is ∙ and_from (int_le (pos 0) (pos n)) (int_le (pos n) (pos 255)) (le-leb 0 n (omega arith)) (le-leb n 255 (omega arith))

pub bytes : (limit : ℕ) (numbers : List ℤ) → limit ≤ 256 → AllByRecursion (IsBelow limit) numbers → list_all (λ number. is_within number (pos 0) (pos 255)) numbers ≡ true
bytes limit [] few all = refl
bytes limit (number ∷ numbers) few (here, rest) =
    and_from (is_within number (pos 0) (pos 255)) (list_all (λ n. is_within n (pos 0) (pos 255)) numbers) (is_byte number limit few here) (bytes limit numbers few rest)

-- what the numbers mean is below the limit
pub means_below : (limit : ℕ) (numbers : List ℤ) → AllByRecursion (IsBelow limit) numbers → AllByRecursion (λ n. n < limit) (map nat_abs numbers)
means_below limit [] all = tt
means_below limit (number ∷ numbers) ((n, is, low), rest) =
    let same : nat_abs number ≡ n = ap nat_abs is in
    (omega arith, means_below limit numbers rest)

-- numbers that differ mean numbers that differ
same_pos : (n m : ℕ) → int_eq (pos n) (pos m) ≡ nat_eq n m
same_pos n m = elim (cases_eq n m) [
  | inl same ↦ (Decides-int_eq (pos n) (pos m)).1 (ap pos same) ∙ sym (eq-eqb n m same)
  | inr other ↦ false_from_ne_true (int_eq (pos n) (pos m)) (λ e. let one = (Decides-int_eq (pos n) (pos m)).0 e in let same : n ≡ m = cc in other same) ∙ sym (ne_eqb n m other)
]

pub same_numbers : (limit : ℕ) (one other : ℤ) → IsBelow limit one → IsBelow limit other → int_eq one other ≡ nat_eq (nat_abs one) (nat_abs other)
same_numbers limit one other (n, is, low) (m, too, under) = ap₂ int_eq is too ∙ same_pos n m ∙ ap₂ nat_eq (sym (ap nat_abs is)) (sym (ap nat_abs too))

pub twins_mean : (limit : ℕ) (numbers : List ℤ) → AllByRecursion (IsBelow limit) numbers → has_twin int_eq numbers ≡ has_twin nat_eq (map nat_abs numbers)
twins_mean limit numbers all =
    twins_same (IsBelow limit) int_eq (λ a b. nat_eq (nat_abs a) (nat_abs b)) numbers (same_numbers limit) all ∙ sym (twins_map nat_abs nat_eq numbers)

-- equal numbers
pub equal : (one other : ℤ) → int_eq one other ≡ true → one ≡ other
equal one other same = (Decides-int_eq one other).0 same
