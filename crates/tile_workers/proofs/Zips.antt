-- Facts that hold of two lists, place by place.
use Rattle.std.proofs.Common.{◌≡◌, ℕ, zero, suc, List, [], ◌∷◌, map, slice_get, All, Some, refl, ap, ◌∙◌, subst}
use Rattle.std.specs.List.{AllZip}
use Rattle.std.proofs.lemmas.List.Elements.{All-nil, All-cons, All-head, All-tail}

-- each item with itself
pub zip_same : {X : Type 0} (R : X → X → Type 0) → ((x : X) → R x x) → (xs : List X) → AllZip R xs xs
zip_same R h [] = tt
zip_same R h (x ∷ xs) = (h x, zip_same R h xs)

-- one after the other
pub zip_then : {X : Type 0} (R S T : X → X → Type 0) → ((x y z : X) → R x y → S y z → T x z)
    → (xs ys zs : List X) → AllZip R xs ys → AllZip S ys zs → AllZip T xs zs
zip_then R S T h [] [] [] a b = tt
zip_then R S T h [] [] (z ∷ zs) a b = absurd b
zip_then R S T h [] (y ∷ ys) zs a b = absurd a
zip_then R S T h (x ∷ xs) [] zs a b = absurd a
zip_then R S T h (x ∷ xs) (y ∷ ys) [] a b = absurd b
zip_then R S T h (x ∷ xs) (y ∷ ys) (z ∷ zs) a b = (h x y z a.0 b.0, zip_then R S T h xs ys zs a.1 b.1)

-- what holds of each old item gives what holds of each new one
pub zip_all : {X : Type 0} (R : X → X → Type 0) (P Q : X → Type 0) → ((x y : X) → R x y → P x → Q y)
    → (xs ys : List X) → AllZip R xs ys → All P xs → All Q ys
zip_all R P Q h [] [] a all = All-nil Q
zip_all R P Q h [] (y ∷ ys) a all = absurd a
zip_all R P Q h (x ∷ xs) [] a all = absurd a
zip_all R P Q h (x ∷ xs) (y ∷ ys) a all =
    All-cons Q y ys (h x y a.0 (All-head P x xs all)) (zip_all R P Q h xs ys a.1 (All-tail P x xs all))

-- what is seen alike of each two items is seen alike of the lists
pub zip_map : {X Y : Type 0} (R : X → X → Type 0) (f : X → Y) → ((x y : X) → R x y → f y ≡ f x)
    → (xs ys : List X) → AllZip R xs ys → map f ys ≡ map f xs
zip_map R f h [] [] a = refl
zip_map R f h [] (y ∷ ys) a = absurd a
zip_map R f h (x ∷ xs) [] a = absurd a
zip_map R f h (x ∷ xs) (y ∷ ys) a =
    ap (λ z. z ∷ map f ys) (h x y a.0) ∙ ap (λ zs. f x ∷ zs) (zip_map R f h xs ys a.1)

-- at one place
pub zip_at : {X : Type 0} (R : X → X → Type 0) (xs ys : List X) → AllZip R xs ys → (place : ℕ) (x y : X)
    → slice_get xs place ≡ Some x → slice_get ys place ≡ Some y → R x y
zip_at R [] ys a place x y is as_is = cc
zip_at R (x0 ∷ xs) [] a place x y is as_is = absurd a
zip_at R (x0 ∷ xs) (y0 ∷ ys) a zero x y is as_is =
    let one : x0 ≡ x = cc in
    let other : y0 ≡ y = cc in
    subst (λ z. R z y) one (subst (R x0) other a.0)
zip_at R (x0 ∷ xs) (y0 ∷ ys) a (suc place) x y is as_is = zip_at R xs ys a.1 place x y is as_is

-- what holds of each image holds of what it is the image of
pub all_unmap : {X Y : Type 0} (P : X → Type 0) (f : Y → X) (ys : List Y) → All P (map f ys) → All (λ y. P (f y)) ys
all_unmap P f [] all = All-nil (λ y. P (f y))
all_unmap P f (y ∷ ys) all =
    All-cons (λ y. P (f y)) y ys (All-head P (f y) (map f ys) all) (all_unmap P f ys (All-tail P (f y) (map f ys) all))

-- a fact that each two items have by another one
pub zip_weaken : {X : Type 0} (R S : X → X → Type 0) → ((x y : X) → R x y → S x y) → (xs ys : List X)
    → AllZip R xs ys → AllZip S xs ys
zip_weaken R S h [] [] a = tt
zip_weaken R S h [] (y ∷ ys) a = absurd a
zip_weaken R S h (x ∷ xs) [] a = absurd a
zip_weaken R S h (x ∷ xs) (y ∷ ys) a = (h x y a.0, zip_weaken R S h xs ys a.1)
