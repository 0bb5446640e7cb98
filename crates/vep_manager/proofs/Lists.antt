-- What is found in a list, what holds of pairs of its items, and how lists are split.
use Rattle.std.proofs.Common.{◌≡◌, ◌≢◌, ℕ, zero, suc, ◌+◌, ◌<◌, ◌≤◌, ◌⊎◌, inl, inr, Bool, true, false, cond, List, [], ◌∷◌, ◌++◌, length, map, take, drop, get_or, Option, Some, None, refl, sym, ap, subst, ◌∙◌, arith, drop-cons, length-append}
use Rattle.std.specs.Prelude.{is_some, not, nat_lt, unwrap_or}
use Rattle.std.specs.List.{All, AllPairs, Contains, find, position, position_or_len, sum_by}
use Rattle.std.specs.Option.{option_map, option_and_then}
use Rattle.std.proofs.lemmas.Bool.{false≢true, ltb-false, cond-true, cond-false}
use Rattle.std.proofs.lemmas.List.Quantifiers.{position-Some}
use Rattle.bundle_model.proofs.Laws.{none_found, no_place}
use Rattle.std.proofs.lemmas.List.Sums.{prefix_len-le-length, sum_by-append, sum_by-cons}
use Rattle.vep_manager.proofs.Counts.{count_all}
use Rattle.std.proofs.lemmas.List.{take-append-drop}
use Rattle.std.proofs.lemmas.List.Elements.{All-nil, All-cons, All-head, All-tail, All-map, All-contains, All-append, Contains-append_right, Contains-append_left, Contains-append_cases}

-- what gave a value
pub mapped : {X Y : Type 0} (f : X → Y) (o : Option X) (y : Y) → option_map f o ≡ Some y
    → (x : X) × (o ≡ Some x) × (f x ≡ y)
mapped f None y e = cc
mapped f (Some x) y e = (x, refl, cc)

pub and_then : {X Y : Type 0} (f : X → Option Y) (o : Option X) (y : Y) → option_and_then f o ≡ Some y
    → (x : X) × (o ≡ Some x) × (f x ≡ Some y)
and_then f None y e = cc
and_then f (Some x) y e = (x, refl, e)

found_here : {X : Type 0} (p : X → Bool) (y x : X) (ys : List X) (passes : Bool) → p y ≡ passes
    → cond passes (Some y) (find p ys) ≡ Some x → (find p ys ≡ Some x → (p x ≡ true) × Contains ys x)
    → (p x ≡ true) × Contains (y ∷ ys) x
found_here p y x ys true test e later =
    let same : y ≡ x = cc in
    (ap p (sym same) ∙ test, Contains-append_left (y ∷ []) ys x (0, omega arith, same))
found_here p y x ys false test e later =
    let rest = later e in
    (rest.0, Contains-append_right (y ∷ []) ys x rest.1)

-- what is found passes and stands in the list
pub found : {X : Type 0} (p : X → Bool) (xs : List X) (x : X) → find p xs ≡ Some x → (p x ≡ true) × Contains xs x
found p [] x e = cc
found p (y ∷ ys) x e = found_here p y x ys (p y) refl e (found p ys x)

none_here : {X : Type 0} (p : X → Bool) (y : X) (ys : List X) (passes : Bool) → p y ≡ passes
    → cond passes (Some y) (find p ys) ≡ None → (find p ys ≡ None → All (λ x. p x ≡ false) ys)
    → All (λ x. p x ≡ false) (y ∷ ys)
none_here p y ys true test e later = cc
none_here p y ys false test e later = All-cons (λ x. p x ≡ false) y ys test (later e)

-- where nothing is found, nothing passes
pub not_found : {X : Type 0} (p : X → Bool) (xs : List X) → find p xs ≡ None → All (λ x. p x ≡ false) xs
not_found p [] e = All-nil (λ x. p x ≡ false)
not_found p (y ∷ ys) e = none_here p y ys (p y) refl e (not_found p ys)

some_of : {X : Type 0} (o : Option X) → (o ≡ None → false ≡ true) → is_some o ≡ true
some_of None wrong = absurd (false≢true (wrong refl))
some_of (Some x) wrong = refl

-- where an item passes, one is found
pub is_found : {X : Type 0} (p : X → Bool) (xs : List X) (x : X) → Contains xs x → p x ≡ true
    → is_some (find p xs) ≡ true
is_found p xs x inside passes =
    some_of (find p xs) (λ none. sym (All-contains (λ y. p y ≡ false) xs x (not_found p xs none) inside) ∙ passes)

-- a fact of each pair of a list and of one item more in front
pub pairs_cons : {X : Type 0} (R : X → X → Type 0) (x : X) (xs : List X) → All (R x) xs → AllPairs R xs
    → (i j : ℕ) (d : X) → i < j → j < length (x ∷ xs) → R (get_or (x ∷ xs) i d) (get_or (x ∷ xs) j d)
pairs_cons R x xs first rest i zero d low high = absurd (omega arith)
pairs_cons R x xs first rest zero (suc j) d low high = first j d (omega arith)
pairs_cons R x xs first rest (suc i) (suc j) d low high = rest i j d (omega arith) (omega arith)

pub pairs_none : {X : Type 0} (R : X → X → Type 0) → AllPairs R []
pairs_none R = λ i j d low high. absurd (omega arith)

pub pairs_head : {X : Type 0} (R : X → X → Type 0) (x : X) (xs : List X) → AllPairs R (x ∷ xs) → All (R x) xs
pairs_head R x xs pairs = λ k d below. pairs 0 (suc k) d (omega arith) (omega arith)

pub pairs_tail : {X : Type 0} (R : X → X → Type 0) (x : X) (xs : List X) → AllPairs R (x ∷ xs) → AllPairs R xs
pairs_tail R x xs pairs = λ i j d low high. pairs (suc i) (suc j) d (omega arith) (omega arith)

only : {X : Type 0} (x z : X) → Contains (x ∷ []) z → x ≡ z
only x z (zero, below, is) = is
only x z (suc k, below, is) = absurd (omega arith)

-- pairs within two lists, and across them
pub pairs_append : {X : Type 0} (R : X → X → Type 0) (xs ys : List X) → AllPairs R xs → AllPairs R ys
    → All (λ x. All (R x) ys) xs → AllPairs R (xs ++ ys)
pairs_append R [] ys left right across = right
pairs_append R (x ∷ xs) ys left right across =
    pairs_cons R x (xs ++ ys)
    (All-append (R x) xs ys (pairs_head R x xs left) (All-head (λ x. All (R x) ys) x xs across))
    (pairs_append R xs ys (pairs_tail R x xs left) right (All-tail (λ x. All (R x) ys) x xs across))

-- pairs whose items a function changes
pub pairs_map : {X Y : Type 0} (R : X → X → Type 0) (S : Y → Y → Type 0) (f : X → Y)
    → ((a b : X) → R a b → S (f a) (f b)) → (xs : List X) → AllPairs R xs → AllPairs S (map f xs)
pairs_map R S f keeps [] pairs = pairs_none S
pairs_map R S f keeps (x ∷ xs) pairs =
    pairs_cons S (f x) (map f xs)
    (All-map (S (f x)) f xs (λ k d below. keeps x (get_or xs k d) (pairs_head R x xs pairs k d below)))
    (pairs_map R S f keeps xs (pairs_tail R x xs pairs))

split_at : {X : Type 0} (ys : List X) (k : ℕ) (x : X) → k < length ys → get_or ys k x ≡ x
    → ys ≡ take k ys ++ x ∷ drop (suc k) ys
split_at ys k x below is =
    sym (take-append-drop k ys)
    ∙ ap (λ rest. take k ys ++ rest) (drop-cons ys k x below ∙ ap (λ y. y ∷ drop (suc k) ys) is)

other_stays : {X : Type 0} (a b : List X) (x z : X) → (x ≡ z → ⊥) → Contains (a ++ x ∷ b) z → Contains (a ++ b) z
other_stays a b x z apart inside =
    elim (Contains-append_cases a (x ∷ b) z inside) [
      | inl left ↦ Contains-append_left a b z left
      | inr right ↦
          elim (Contains-append_cases (x ∷ []) b z right) [
            | inl here ↦ absurd (apart (only x z here))
            | inr later ↦ Contains-append_right a b z later
          ]
    ]

-- items of which no two are one, each an item of another list, weigh at most what it does
pub lighter : {X : Type 0} (f : X → ℕ) (xs ys : List X) → AllPairs (λ a b. a ≢ b) xs → All (Contains ys) xs
    → sum_by f xs ≤ sum_by f ys
lighter f [] ys apart inside = omega arith
lighter {X} f (x ∷ xs) ys apart inside =
    let here = All-head (Contains ys) x xs inside in
    let is = split_at ys here.0 x here.1 here.2 in
    let a : List X = take here.0 ys in
    let b : List X = drop (suc here.0) ys in
    let others : All (Contains (a ++ b)) xs = λ k d below.
    other_stays a b x (get_or xs k d) (pairs_head (λ a b. a ≢ b) x xs apart k d below)
    (subst (λ (l : List X). Contains l (get_or xs k d)) is (All-tail (Contains ys) x xs inside k d below)) in
    let rest = lighter f xs (a ++ b) (pairs_tail (λ a b. a ≢ b) x xs apart) others in
    omega (
      arith,
      rest,
      ap (sum_by f) is,
      sum_by-append f a (x ∷ b),
      sum_by-append f a b,
      sum_by-cons f x b,
      sum_by-cons f x xs,
    )

-- and are at most as many
pub fewer : {X : Type 0} (xs ys : List X) → AllPairs (λ a b. a ≢ b) xs → All (Contains ys) xs → length xs ≤ length ys
fewer {X} xs ys apart inside =
    let light = lighter (λ (x : X). 1) xs ys apart inside in
    omega (arith, light, count_all xs, count_all ys)

-- where one list with an item at its end is another around an item, that item is the last, or it stands
-- in the list before the end
pub split_last : {X : Type 0} (xs : List X) (x : X) (before : List X) (y : X) (after : List X)
    → xs ++ x ∷ [] ≡ before ++ y ∷ after → ((xs ≡ before) × (x ≡ y)) ⊎ ((rest : List X) × (xs ≡ before ++ y ∷ rest))
split_last [] x [] y after e = inl (refl, cc)
split_last [] x (b ∷ bs) y after e = absurd (omega (arith, ap length e, length-append bs (y ∷ after)))
split_last (z ∷ zs) x [] y after e = inr (zs, cc)
split_last {X} (z ∷ zs) x (b ∷ bs) y after e =
    let same : z ≡ b = cc in
    let rest : zs ++ x ∷ [] ≡ bs ++ y ∷ after = cc in
    elim (split_last zs x bs y after rest) [
      | inl (front, last) ↦ inl (cc, last)
      | inr (more, is) ↦ inr (more, cc)
    ]

place_cases : {X : Type 0} (p : X → Bool) (xs : List X) (here : Bool)
    → nat_lt (position_or_len p xs) (length xs) ≡ here
    → unwrap_or (cond here (Some (position_or_len p xs)) None) (length xs) ≡ position_or_len p xs
place_cases p xs true is = refl
place_cases p xs false is = let past =
    ltb-false (position_or_len p xs) (length xs) is in omega (arith, past, prefix_len-le-length (λ x. not (p x)) xs)

-- the first place that passes, and the length where there is none
pub place_or : {X : Type 0} (p : X → Bool) (xs : List X)
    → unwrap_or (position p xs) (length xs) ≡ position_or_len p xs
place_or p xs = place_cases p xs (nat_lt (position_or_len p xs) (length xs)) refl

-- the first item that passes is found
find_first : {X : Type 0} (p : X → Bool) (xs : List X) (k : ℕ) (d : X) → k < length xs → p (get_or xs k d) ≡ true
    → ((j : ℕ) → j < k → p (get_or xs j d) ≡ false) → find p xs ≡ Some (get_or xs k d)
find_first p [] k d inside passes before = absurd (omega (arith, inside))
find_first p (x ∷ xs) zero d inside passes before = cond-true (p x) (Some x) (find p xs) passes
find_first p (x ∷ xs) (suc k) d inside passes before =
    cond-false (p x) (Some x) (find p xs) (before zero (omega arith))
    ∙ find_first p xs k d (omega (arith, inside)) passes (λ j low. before (suc j) (omega (arith, low)))

-- at its place
pub find_placed : {X : Type 0} (p : X → Bool) (xs : List X) (k : ℕ) (d : X) → position p xs ≡ Some k
    → find p xs ≡ Some (get_or xs k d)
find_placed p xs k d at =
    let here = position-Some p xs k d at in find_first p xs k d here.0 here.1 here.2

-- and none where it has no place
pub find_unplaced : {X : Type 0} (p : X → Bool) (xs : List X) → position p xs ≡ None → find p xs ≡ None
find_unplaced p xs none = none_found p xs (λ k x at. no_place p xs k x none at)
