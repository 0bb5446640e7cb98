-- Lists: an item that is set, items that a function makes, and what holds of all of them.
use Rattle.std.proofs.Common.{◌≡◌, ℕ, zero, suc, ◌+◌, List, [], ◌∷◌, map, set, get_or, slice_get, Some, sym, refl, ap, ◌∙◌, arith}
use Rattle.std.specs.List.{All, range_with_len}
use Rattle.std.proofs.lemmas.List.Elements.{All-nil, All-cons, All-head, All-tail}

pub set_here : {X : Type 0} (xs : List X) (i : ℕ) (x y : X) → slice_get xs i ≡ Some x → slice_get (set xs i y) i ≡ Some y
set_here [] i x y there = cc
set_here (z ∷ zs) zero x y there = refl
set_here (z ∷ zs) (suc i) x y there = set_here zs i x y there

pub set_there : {X : Type 0} (xs : List X) (i k : ℕ) (y : X) → (i ≡ k → ⊥) → slice_get (set xs i y) k ≡ slice_get xs k
set_there [] i k y other = refl
set_there (z ∷ zs) zero zero y other = absurd (other refl)
set_there (z ∷ zs) zero (suc k) y other = refl
set_there (z ∷ zs) (suc i) zero y other = refl
set_there (z ∷ zs) (suc i) (suc k) y other = set_there zs i k y (λ same. other (ap suc same))

-- an item of a list that a function makes
pub made_at : {X : Type 0} (f : ℕ → X) (from n k : ℕ) (x : X) → slice_get (map f (range_with_len from n)) k ≡ Some x → x ≡ f (from + k)
made_at f from zero k x there = cc
made_at f from (suc n) zero x there =
    let same : from + 0 ≡ from = omega arith in
    let is : f from ≡ x = cc in
    sym is ∙ ap f (sym same)
made_at f from (suc n) (suc k) x there =
    let same : from + 1 + k ≡ from + suc k = omega arith in
    made_at f (from + 1) n k x there ∙ ap f same

-- what follows from two properties holds where both do
pub both_hold : {X : Type 0} (P Q R : X → Type 0) (xs : List X) → ((x : X) → P x → Q x → R x) → All P xs → All Q xs → All R xs
both_hold P Q R xs both one other = λ k d low. both (get_or xs k d) (one k d low) (other k d low)

-- what holds of all that is made holds, made, of all that it is made of
pub all_of : {X Y : Type 0} (P : Y → Type 0) (f : X → Y) (xs : List X) → All P (map f xs) → All (λ x. P (f x)) xs
all_of P f [] all = All-nil (λ x. P (f x))
all_of P f (x ∷ xs) all = All-cons (λ x. P (f x)) x xs (All-head P (f x) (map f xs) all) (all_of P f xs (All-tail P (f x) (map f xs) all))
