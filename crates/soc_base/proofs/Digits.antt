-- More digits never make a number smaller.
use Rattle.std.proofs.Common.{◌≡◌, ℕ, ◌+◌, ◌-◌, ◌*◌, ◌<◌, ◌≤◌, List, [], ◌∷◌, fold, take, drop, length, get_or, None, sym, ap, ◌∙◌, arith}
use Rattle.std.proofs.lemmas.List.{take-append-drop}
use Rattle.std.proofs.lemmas.List.Sums.{fold-append, fold_more}
use Rattle.std.proofs.lemmas.Bool.Decides.{nat_tests}
use Rattle.soc_base.specs.Text.{value_of, number_within}

-- a number grows, or stays, by each further digit
value_grows : (digits : List ℕ) (value : ℕ) → value ≤ fold (λ v d. v * 10 + (d - 48)) value digits
value_grows [] value = omega arith
value_grows (digit ∷ digits) value = omega (arith, value_grows digits (value * 10 + (digit - 48)))

-- the value of a front is at most that of the whole
pub value_of_take : (digits : List ℕ) (n : ℕ) → value_of (take n digits) ≤ value_of digits
value_of_take digits n =
    let whole : value_of digits ≡ fold (λ v d. v * 10 + (d - 48)) (value_of (take n digits)) (drop n digits) = ap value_of (sym (take-append-drop n digits)) ∙ fold-append (λ (v : ℕ) (d : ℕ). v * 10 + (d - 48)) 0 (take n digits) (drop n digits) in
    omega (arith, whole, value_grows (drop n digits) (value_of (take n digits)))

-- digits of which a front is above the limit have no value within it
pub large_front : (digits : List ℕ) (i value limit : ℕ) → i < length digits → value ≡ value_of (take i digits) → limit < value * 10 + (get_or digits i 0 - 48) → number_within (value_of digits) limit ≡ None
large_front digits i value limit inside is above =
    let front = fold_more (λ (v : ℕ) (d : ℕ). v * 10 + (d - 48)) 0 digits i 0 inside in
    let grows = value_of_take digits (i + 1) in
    let large : limit < value_of digits = omega (arith, front, grows, is) in
    grind (arith, nat_tests)
