-- Loops over wires, and the first place in a list that passes.
use Rattle.std.proofs.Common.{◌≡◌, ◌≢◌, ℕ, ◌+◌, ◌<◌, Bool, true, false, cond, Some, None, position, ap₂, List, [], ◌∷◌, ◌++◌, length, map, take, drop, set, get_or, refl, sym, ap, subst, ◌∙◌, arith, length-set, get_or-set_other}
use Rattle.std.specs.Prelude.{nat_lt}
use Rattle.std.specs.List.{AllWithin, position_or_len}
use Rattle.std.proofs.lemmas.Bool.{lt-ltb, ltb-true, false_from_ne_true}
use Rattle.std.proofs.lemmas.List.Sums.{position_or_len_is}
use Rattle.std.proofs.Math.Seq.{map-set_same}
use Rattle.std.proofs.lemmas.List.{map-set, length-map, get_or-map, get_or_default}
use Rattle.std.proofs.lemmas.List.Edits.{map_over_more}

-- an item more was changed
changed_more : {X : Type 0} (f : X → X) (xs ys : List X) (i : ℕ) (y d : X) → i < length xs → length ys ≡ length xs → ys ≡ map f (take i xs) ++ drop i xs → y ≡ f (get_or ys i d) → set ys i y ≡ map f (take (i + 1) xs) ++ drop (i + 1) xs
changed_more f xs ys i y d below same so_far is =
    let low : i < length ys = omega arith in
    rw is (map_over_more f xs ys i (get_or ys i d) below so_far (get_or_default ys i d (get_or ys i d) low))

-- an item more was changed, as its view says
pub viewed_more : {X Y : Type 0} (v : X → Y) (f : Y → Y) (xs : List Y) (ys : List X) (i : ℕ) (x d : X) → i < length ys → length xs ≡ length ys → map v ys ≡ map f (take i xs) ++ drop i xs → v x ≡ f (v (get_or ys i d)) → map v (set ys i x) ≡ map f (take (i + 1) xs) ++ drop (i + 1) xs
viewed_more v f xs ys i x d low same done is =
    map-set v ys i x
    ∙ changed_more f xs (map v ys) i (v x) (v d) (omega arith) (length-map ys v ∙ sym same) done (is ∙ sym (ap f (get_or-map v ys i d (v d) low)))

-- an item was changed, and its view wasn't
pub viewed_same : {X Y : Type 0} (v : X → Y) (ys : List X) (i : ℕ) (x d : X) → v x ≡ v (get_or ys i d) → map v (set ys i x) ≡ map v ys
viewed_same v ys i x d is = map-set_same v ys i x d is

-- what holds from an item on holds after it
pub within_rest : {X : Type 0} (P : X → Type 0) (ys : List X) (i : ℕ) (x : X) → AllWithin P ys i (length ys) → AllWithin P (set ys i x) (i + 1) (length (set ys i x))
within_rest P ys i x all = λ k d low high.
    let long = length-set ys i x in
    let other : k ≢ i = λ same. absurd (omega arith) in
    subst P (sym (get_or-set_other ys i k x d other)) (all k d (omega arith) (omega (arith, long)))

-- the first place that passes
pub position_is : {X : Type 0} (p : X → Bool) (xs : List X) (i : ℕ) (d : X) → i < length xs → p (get_or xs i d) ≡ true → ((k : ℕ) → k < i → p (get_or xs k d) ≡ false) → position p xs ≡ Some i
position_is p xs i d low passes before =
    let at : position_or_len p xs ≡ i = position_or_len_is p xs i d (omega arith) before (λ _. passes) in
    ap₂ (λ (b : Bool) (n : ℕ). cond b (Some n) None) (lt-ltb (position_or_len p xs) (length xs) (omega arith)) at

pub position_is_none : {X : Type 0} (p : X → Bool) (xs : List X) → ((k : ℕ) (d : X) → k < length xs → p (get_or xs k d) ≡ false) → position p xs ≡ None
position_is_none p [] before = refl
position_is_none p (x ∷ xs) before =
    let at : position_or_len p (x ∷ xs) ≡ length (x ∷ xs) = position_or_len_is p (x ∷ xs) (length (x ∷ xs)) x (omega arith) (λ k low. before k x low) (λ low. absurd (omega arith)) in
    let past : nat_lt (position_or_len p (x ∷ xs)) (length (x ∷ xs)) ≡ false = false_from_ne_true _ (λ under. let less = ltb-true (position_or_len p (x ∷ xs)) (length (x ∷ xs)) under in absurd (omega arith)) in
    ap (λ (b : Bool). cond b (Some (position_or_len p (x ∷ xs))) None) past
