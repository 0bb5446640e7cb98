-- Lists in which two items are alike, and lists in which none are.
use Rattle.std.proofs.Common.{◌≡◌, Bool, true, false, ◌||◌, List, [], ◌∷◌, ◌++◌, map, filter, length, All, AllPairs, refl, sym, ap, ap₂, ◌∙◌, arith}
use Rattle.std.specs.List.{list_any, count_by, flat_map, AllByRecursion, IsDistinct}
use Rattle.std.proofs.lemmas.List.Elements.{All-nil, All-cons}
use Rattle.std.proofs.lemmas.List.Folds.{list_any-append}
use Rattle.std.proofs.lemmas.List.Kept.{AllPairs-cons}
use Rattle.std.proofs.lemmas.List.Sums.{length-filter}
use Rattle.std.proofs.lemmas.Bool.{or_parts, or_from}
use Rattle.std.proofs.Math.Bool.{or_assoc, or-false}
use Rattle.soc_base.specs.Twins.{has_twin}

-- a count is the length of what passes
pub filtered_count : {X : Type 0} (test : X → Bool) (xs : List X) → count_by test xs ≡ length (filter test xs)
filtered_count test xs = sym (length-filter test xs)

-- what holds of each item of two lists, or of lists that are joined
pub all_append : {X : Type 0} (P : X → Type 0) (xs ys : List X) → AllByRecursion P xs → AllByRecursion P ys → AllByRecursion P (xs ++ ys)
all_append P [] ys all others = others
all_append P (x ∷ xs) ys (here, rest) others = (here, all_append P xs ys rest others)

pub all_flat : {X Y : Type 0} (P : X → Type 0) (Q : Y → Type 0) (f : X → List Y) (xs : List X) → ((x : X) → P x → AllByRecursion Q (f x)) → AllByRecursion P xs → AllByRecursion Q (flat_map f xs)
all_flat P Q f [] each all = tt
all_flat P Q f (x ∷ xs) each (here, rest) = all_append Q (f x) (flat_map f xs) (each x here) (all_flat P Q f xs each rest)

-- tests that agree on the items
pub any_same : {X : Type 0} (P : X → Type 0) (one other : X → Bool) (xs : List X) → ((x : X) → P x → one x ≡ other x) → AllByRecursion P xs → list_any one xs ≡ list_any other xs
any_same P one other [] same all = refl
any_same P one other (x ∷ xs) same (here, rest) = ap₂ (λ a b. a || b) (same x here) (any_same P one other xs same rest)

pub any_none : {X : Type 0} (P : X → Type 0) (test : X → Bool) (xs : List X) → ((x : X) → P x → test x ≡ false) → AllByRecursion P xs → list_any test xs ≡ false
any_none P test [] none all = refl
any_none P test (x ∷ xs) none (here, rest) = or_from (test x) (list_any test xs) (none x here) (any_none P test xs none rest)

pub twins_same : {X : Type 0} (P : X → Type 0) (one other : X → X → Bool) (xs : List X) → ((x y : X) → P x → P y → one x y ≡ other x y) → AllByRecursion P xs → has_twin one xs ≡ has_twin other xs
twins_same P one other [] same all = refl
twins_same P one other (x ∷ xs) same (here, rest) =
    ap₂ (λ a b. a || b) (any_same P (one x) (other x) xs (λ y there. same x y here there) rest) (twins_same P one other xs same rest)

pub twins_none : {X : Type 0} (P : X → Type 0) (alike : X → X → Bool) (xs : List X) → ((x y : X) → P x → P y → alike x y ≡ false) → AllByRecursion P xs → has_twin alike xs ≡ false
twins_none P alike [] none all = refl
twins_none P alike (x ∷ xs) none (here, rest) =
    or_from (list_any (alike x) xs) (has_twin alike xs) (any_none P (alike x) xs (λ y there. none x y here there) rest) (twins_none P alike xs none rest)

-- two lists of which no item of the one is like one of the other
pub twins_append : {X : Type 0} (P Q : X → Type 0) (alike : X → X → Bool) (xs ys : List X) → ((x y : X) → P x → Q y → alike x y ≡ false) → AllByRecursion P xs → AllByRecursion Q ys → has_twin alike (xs ++ ys) ≡ (has_twin alike xs || has_twin alike ys)
twins_append P Q alike [] ys apart all others = refl
twins_append P Q alike (x ∷ xs) ys apart (here, rest) others =
    let cross : list_any (alike x) (xs ++ ys) ≡ list_any (alike x) xs =
    list_any-append (alike x) xs ys ∙ ap (λ b. list_any (alike x) xs || b) (any_none Q (alike x) ys (λ y there. apart x y here there) others) ∙ or-false (list_any (alike x) xs) in
    ap₂ (λ a b. a || b) cross (twins_append P Q alike xs ys apart rest others) ∙ sym (or_assoc (list_any (alike x) xs) (has_twin alike xs) (has_twin alike ys))

-- an item more at the end
shuffled : (a b t l : Bool) → ((a || (b || false)) || (t || l)) ≡ ((a || t) || (b || l))
shuffled true b t l = refl
shuffled false true true l = refl
shuffled false true false l = refl
shuffled false false t l = refl

pub twins_push : {X : Type 0} (alike : X → X → Bool) (xs : List X) (x : X) → has_twin alike (xs ++ x ∷ []) ≡ (has_twin alike xs || list_any (λ y. alike y x) xs)
twins_push alike [] x = refl
twins_push alike (y ∷ xs) x =
    ap₂ (λ a b. a || b) (list_any-append (alike y) xs (x ∷ [])) (twins_push alike xs x)
    ∙ shuffled (list_any (alike y) xs) (alike y x) (has_twin alike xs) (list_any (λ z. alike z x) xs)

-- the items of a list that is made of another are alike where those of the other are
pub any_map : {X Y : Type 0} (f : X → Y) (test : Y → Bool) (xs : List X) → list_any test (map f xs) ≡ list_any (λ x. test (f x)) xs
any_map f test [] = refl
any_map f test (x ∷ xs) = ap (λ b. test (f x) || b) (any_map f test xs)

pub twins_map : {X Y : Type 0} (f : X → Y) (alike : Y → Y → Bool) (xs : List X) → has_twin alike (map f xs) ≡ has_twin (λ x y. alike (f x) (f y)) xs
twins_map f alike [] = refl
twins_map f alike (x ∷ xs) = ap₂ (λ a b. a || b) (any_map f (alike (f x)) xs) (twins_map f alike xs)

-- where none are alike, all are unlike
each_fails : {X : Type 0} (R : X → Type 0) (test : X → Bool) (xs : List X) → ((x : X) → test x ≡ false → R x) → list_any test xs ≡ false → All R xs
each_fails R test [] from none = All-nil R
each_fails R test (x ∷ xs) from none =
    let both = or_parts (test x) (list_any test xs) none in
    All-cons R x xs (from x both.0) (each_fails R test xs from both.1)

pub unlike_pairs : {X : Type 0} (R : X → X → Type 0) (alike : X → X → Bool) (xs : List X) → ((x y : X) → alike x y ≡ false → R x y) → has_twin alike xs ≡ false → AllPairs R xs
unlike_pairs R alike [] from none = λ i j x before inside. absurd (omega (arith, inside))
unlike_pairs R alike (x ∷ xs) from none =
    let both = or_parts (list_any (alike x) xs) (has_twin alike xs) none in
    AllPairs-cons R x xs (each_fails (R x) (alike x) xs (from x) both.0) (unlike_pairs R alike xs from both.1)

none_like : {X : Type 0} (test : X → Bool) (xs : List X) → AllByRecursion (λ x. test x ≡ false) xs → list_any test xs ≡ false
none_like test xs all = any_none (λ x. test x ≡ false) test xs (λ x fails. fails) all

pub distinct_twinless : {X : Type 0} (alike : X → X → Bool) (xs : List X) → IsDistinct alike xs → has_twin alike xs ≡ false
unfolding IsDistinct
distinct_twinless alike [] apart = refl
distinct_twinless alike (x ∷ xs) apart = or_from (list_any (alike x) xs) (has_twin alike xs) (none_like (alike x) xs apart.0) (distinct_twinless alike xs apart.1)
