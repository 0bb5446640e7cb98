-- Lists by their places.
use Rattle.std.proofs.Common.{◌≡◌, ℕ, zero, suc, ◌+◌, ◌<◌, Bool, true, false, not, cond, List, [], ◌∷◌, map, find, position, slice_get, get_or, nat_lt, length, Some, None, option_map, refl, sym, ap, ◌∙◌, inl, inr, arith}
use Rattle.std.specs.List.{position_or_len}
use Rattle.std.proofs.lemmas.Bool.{cases_Bool, ltb-false, cond-true}
use Rattle.std.proofs.lemmas.Option.{none-some, same_Some, slice_get_within, slice_get-get_or}
use Rattle.std.proofs.lemmas.List.Quantifiers.{position-Some}

-- an item that is made stands where the item does that it is made of
pub mapped_place : {X Y : Type 0} (f : X → Y) (xs : List X) (k : ℕ) (y : Y) → slice_get (map f xs) k ≡ Some y → (x : X) × (slice_get xs k ≡ Some x) × (f x ≡ y)
mapped_place f [] k y at = absurd (none-some y at)
mapped_place f (x ∷ xs) zero y at = (x, refl, same_Some (f x) y at)
mapped_place f (x ∷ xs) (suc k) y at = mapped_place f xs k y at

-- what is found of a list that is made item by item
pub find_map : {X Y : Type 0} (f : X → Y) (test : Y → Bool) (xs : List X) → find test (map f xs) ≡ option_map f (find (λ x. test (f x)) xs)
find_map f test [] = refl
find_map f test (x ∷ xs) = elim (test (f x)) as (λ b. cond b (Some (f x)) (find test (map f xs)) ≡ option_map f (cond b (Some x) (find (λ y. test (f y)) xs))) [
  | true ↦ refl
  | false ↦ find_map f test xs
]

-- the items before the first that passes don't
earlier_fails : {X : Type 0} (test : X → Bool) (xs : List X) (k : ℕ) (x : X) → slice_get xs k ≡ Some x → k < position_or_len test xs → test x ≡ false
earlier_fails test [] k x at low = absurd (none-some x at)
earlier_fails test (y ∷ xs) zero x at low = elim (cases_Bool (test y)) [
  | inl passes ↦ let none : position_or_len test (y ∷ xs) ≡ 0 = ap (λ b. cond (not b) (1 + position_or_len test xs) 0) passes in absurd (omega arith)
  | inr fails ↦ ap test (sym (same_Some y x at)) ∙ fails
]
earlier_fails test (y ∷ xs) (suc k) x at low = elim (cases_Bool (test y)) [
  | inl passes ↦ let none : position_or_len test (y ∷ xs) ≡ 0 = ap (λ b. cond (not b) (1 + position_or_len test xs) 0) passes in absurd (omega arith)
  | inr fails ↦
      let more : position_or_len test (y ∷ xs) ≡ 1 + position_or_len test xs = ap (λ b. cond (not b) (1 + position_or_len test xs) 0) fails in
      earlier_fails test xs k x at (omega arith)
]

-- no item passes where no place is found
pub no_place : {X : Type 0} (test : X → Bool) (xs : List X) (k : ℕ) (x : X) → position test xs ≡ None → slice_get xs k ≡ Some x → test x ≡ false
no_place test xs k x none at = elim (cases_Bool (nat_lt (position_or_len test xs) (length xs))) [
  | inl inside ↦ absurd (none-some (position_or_len test xs) (sym none ∙ cond-true (nat_lt (position_or_len test xs) (length xs)) (Some (position_or_len test xs)) None inside))
  | inr past ↦
      let end = ltb-false (position_or_len test xs) (length xs) past in
      let within = slice_get_within xs k x at in
      earlier_fails test xs k x at (omega arith)
]

-- the item at the place that is found passes
pub passing_place : {X : Type 0} (test : X → Bool) (xs : List X) (k : ℕ) → position test xs ≡ Some k → (x : X) × (slice_get xs k ≡ Some x) × (test x ≡ true)
passing_place test [] k found = absurd (none-some k found)
passing_place test (y ∷ xs) k found =
    let here = position-Some test (y ∷ xs) k y found in
    (get_or (y ∷ xs) k y, slice_get-get_or (y ∷ xs) k y here.0, here.1)
