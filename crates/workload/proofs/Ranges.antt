-- A loop over a range of numbers goes on by one.
use Rattle.std.proofs.Common.{◌≡◌, ℕ, zero, suc, ◌+◌, ◌-◌, ◌≤◌, List, [], ◌∷◌, ◌++◌, map, append_assoc, append-nil, ap, sym, ◌∙◌, arith}
use Rattle.std.specs.List.{range_with_len, flat_map}
use Rattle.std.proofs.lemmas.Grind.{flat_map-append}
use Rattle.std.proofs.lemmas.List.{map-append}
use Rattle.std.proofs.lemmas.List.FromFn.{map-range_with_len_more}

-- what is made of the numbers from 0 to n
pub range_more : {X : Type 0} (f : ℕ → X) (n : ℕ) → map f (range_with_len 0 (n + 1)) ≡ map f (range_with_len 0 n) ++ f n ∷ []
range_more f n = map-range_with_len_more f 0 n n (omega arith)

-- one number more at the end of a range
range_last : (first n : ℕ) → range_with_len first (suc n) ≡ range_with_len first n ++ (first + n) ∷ []
range_last first zero = let e : first ≡ first + 0 = omega arith in ap (λ k. k ∷ []) e
range_last first (suc n) =
    let e : first + 1 + n ≡ first + suc n = omega arith in
    ap (λ ks. first ∷ ks) (range_last (first + 1) n ∙ ap (λ k. range_with_len (first + 1) n ++ k ∷ []) e)

-- what is made of the numbers of a range, after a front, and of one number more: those from `first` to below
-- `at`, and `at`
pub listed_more : {Y : Type 0} (f : ℕ → Y) (front all : List Y) (one : Y) (first at : ℕ) → first ≤ at → all ≡ front ++ map f (range_with_len first (at - first)) → one ≡ f at
    → all ++ one ∷ [] ≡ front ++ map f (range_with_len first (at + 1 - first))
listed_more f front all one first at inside before same =
    let n : ℕ = at - first in
    let last : first + n ≡ at = omega (arith, inside) in
    let count : at + 1 - first ≡ suc n = omega (arith, inside) in
    let joined : all ++ one ∷ [] ≡ (front ++ map f (range_with_len first n)) ++ f at ∷ [] = rw (before, same) in
    let more : map f (range_with_len first n) ++ f at ∷ [] ≡ map f (range_with_len first (at + 1 - first)) =
    sym (ap (λ k. map f (range_with_len first k)) count ∙ ap (map f) (range_last first n) ∙ map-append f (range_with_len first n) ((first + n) ∷ []) ∙ ap (λ k. map f (range_with_len first n) ++ f k ∷ []) last) in
    joined ∙ append_assoc front (map f (range_with_len first n)) (f at ∷ []) ∙ ap (λ ys. front ++ ys) more

-- the same of the numbers from 0 on, and of what is seen of a list's items
pub mapped_more : {X Y : Type 0} (view : X → Y) (f : ℕ → Y) (front : List Y) (items : List X) (item : X) (n : ℕ) → map view items ≡ front ++ map f (range_with_len 0 n) → view item ≡ f n
    → map view (items ++ item ∷ []) ≡ front ++ map f (range_with_len 0 (n + 1))
mapped_more view f front items item n before same =
    let joined : map view items ++ view item ∷ [] ≡ (front ++ map f (range_with_len 0 n)) ++ f n ∷ [] = rw (before, same) in
    map-append view items (item ∷ []) ∙ joined ∙ append_assoc front (map f (range_with_len 0 n)) (f n ∷ []) ∙ ap (λ ys. front ++ ys) (sym (range_more f n))

-- the lists of a range's numbers, one after the other, are followed by the list of one number more
pub joined_more : {X : Type 0} (f : ℕ → List X) (first at : ℕ) → first ≤ at → flat_map f (range_with_len first (at - first)) ++ f at ≡ flat_map f (range_with_len first (at + 1 - first))
joined_more f first at inside =
    let n : ℕ = at - first in
    let last : first + n ≡ at = omega (arith, inside) in
    let count : at + 1 - first ≡ suc n = omega (arith, inside) in
    sym (ap (λ k. flat_map f (range_with_len first k)) count ∙ ap (flat_map f) (range_last first n)
    ∙ flat_map-append f (range_with_len first n) ((first + n) ∷ []) ∙ ap (λ ys. flat_map f (range_with_len first n) ++ ys) (append-nil (f (first + n)) ∙ ap f last))
