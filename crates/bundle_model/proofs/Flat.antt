-- Places in a list that is made of lists.
use Rattle.std.proofs.Common.{◌≡◌, ℕ, zero, suc, ◌+◌, List, [], ◌∷◌, ◌++◌, length, slice_get, Some, ap, ◌∙◌, subst, arith}
use Rattle.std.specs.List.{flat_map}
use Rattle.std.proofs.lemmas.Option.{none-some, same_Some}

pub append_front : {X : Type 0} (xs ys : List X) (k : ℕ) (x : X) → slice_get xs k ≡ Some x → slice_get (xs ++ ys) k ≡ Some x
append_front [] ys k x there = absurd (none-some x there)
append_front (z ∷ xs) ys zero x there = there
append_front (z ∷ xs) ys (suc k) x there = append_front xs ys k x there

pub append_back : {X : Type 0} (xs ys : List X) (k : ℕ) (y : X) → slice_get ys k ≡ Some y → slice_get (xs ++ ys) (length xs + k) ≡ Some y
append_back [] ys k y there = let e : k ≡ 0 + k = omega arith in subst (λ n. slice_get ys n ≡ Some y) e there
append_back (z ∷ xs) ys k y there =
    let e : suc (length xs + k) ≡ suc (length xs) + k = omega arith in
    subst (λ n. slice_get (z ∷ xs ++ ys) n ≡ Some y) e (append_back xs ys k y there)

-- how many items stand before those of the i-th
abbrev pub offset : {X Y : Type 0} → (X → List Y) → List X → ℕ → ℕ
offset f [] i = 0
offset f (x ∷ xs) zero = 0
offset f (x ∷ xs) (suc i) = length (f x) + offset f xs i

pub flat_at : {X Y : Type 0} (f : X → List Y) (xs : List X) (i k : ℕ) (x : X) (y : Y) → slice_get xs i ≡ Some x → slice_get (f x) k ≡ Some y → slice_get (flat_map f xs) (offset f xs i + k) ≡ Some y
flat_at f [] i k x y at there = absurd (none-some x at)
flat_at f (z ∷ xs) zero k x y at there =
    let e : k ≡ 0 + k = omega arith in
    subst (λ n. slice_get (f z ++ flat_map f xs) n ≡ Some y) e (append_front (f z) (flat_map f xs) k y (ap (λ w. slice_get (f w) k) (same_Some z x at) ∙ there))
flat_at f (z ∷ xs) (suc i) k x y at there =
    let e : length (f z) + (offset f xs i + k) ≡ length (f z) + offset f xs i + k = omega arith in
    subst (λ n. slice_get (f z ++ flat_map f xs) n ≡ Some y) e (append_back (f z) (flat_map f xs) (offset f xs i + k) y (flat_at f xs i k x y at there))
