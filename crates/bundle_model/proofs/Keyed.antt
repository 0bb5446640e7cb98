-- Lists whose items have different keys, and what is found in a list.
use Rattle.std.proofs.Common.{◌≡◌, ◌≢◌, ℕ, zero, suc, ◌<◌, Bool, true, false, cond, List, [], ◌∷◌, filter, find, slice_get, get_or, AllPairs, All, Contains, Some, None, refl, sym, ap, ◌∙◌, subst, inl, inr, arith}
use Rattle.std.proofs.lemmas.Bool.{cases_order, cases_Bool, false_from_ne_true, cond-true, cond-false}
use Rattle.std.proofs.lemmas.Option.{none-some, same_Some, slice_get_within, slice_get-get_or, get_or_from_slice_get}

-- items with one key stand at one place
abbrev pub AreKeyed : {X K : Type 0} → (X → K) → List X → Type 0
AreKeyed {X} key xs = (i j : ℕ) (x y : X) → slice_get xs i ≡ Some x → slice_get xs j ≡ Some y → key x ≡ key y → i ≡ j

-- an item of each place
pub at_place : {X : Type 0} (P : X → Type 0) (xs : List X) (k : ℕ) (x : X) → All P xs → slice_get xs k ≡ Some x → P x
at_place P xs k x all there = subst P (get_or_from_slice_get xs k x x there) (all k x (slice_get_within xs k x there))

pub pair_at : {X : Type 0} (R : X → X → Type 0) (xs : List X) (i j : ℕ) (x y : X) → AllPairs R xs → i < j → slice_get xs i ≡ Some x → slice_get xs j ≡ Some y → R x y
pair_at R xs i j x y pairs before at_i at_j =
    let first : R (get_or xs i x) (get_or xs j x) = pairs i j x before (slice_get_within xs j y at_j) in
    subst (λ b. R x b) (get_or_from_slice_get xs j y x at_j) (subst (λ a. R a (get_or xs j x)) (get_or_from_slice_get xs i x x at_i) first)

pub keyed_pairs : {X K : Type 0} (key : X → K) (xs : List X) → AllPairs (λ x y. key x ≢ key y) xs → AreKeyed key xs
keyed_pairs key xs pairs i j x y at_i at_j same = elim (cases_order i j) [
  | inl one ↦ one
  | inr (inl before) ↦ absurd (pair_at (λ x y. key x ≢ key y) xs i j x y pairs before at_i at_j same)
  | inr (inr behind) ↦ absurd (pair_at (λ x y. key x ≢ key y) xs j i y x pairs behind at_j at_i (sym same))
]

-- what a list contains stands at a place
pub contained_place : {X : Type 0} (xs : List X) (x : X) → Contains xs x → (k : ℕ) × (slice_get xs k ≡ Some x)
contained_place xs x (k, inside, is) = (k, slice_get-get_or xs k x inside ∙ ap (λ y. Some y) is)

-- what is found stands at a place and passes
pub found_place : {X : Type 0} (test : X → Bool) (xs : List X) (x : X) → find test xs ≡ Some x → (k : ℕ) × (slice_get xs k ≡ Some x) × (test x ≡ true)
found_place test [] x found = absurd (none-some x found)
found_place test (y ∷ xs) x found = elim (cases_Bool (test y)) [
  | inl passes ↦
      let same : y ≡ x = same_Some y x (sym (cond-true (test y) (Some y) (find test xs) passes) ∙ found) in
      (zero, ap (λ z. Some z) same, ap test (sym same) ∙ passes)
  | inr fails ↦
      let rest = found_place test xs x (sym (cond-false (test y) (Some y) (find test xs) fails) ∙ found) in
      (suc rest.0, rest.1, rest.2)
]

-- what passes at one place alone is found
pub found_at : {X : Type 0} (test : X → Bool) (xs : List X) (k : ℕ) (x : X) → slice_get xs k ≡ Some x → test x ≡ true → ((j : ℕ) (y : X) → slice_get xs j ≡ Some y → test y ≡ true → j ≡ k) → find test xs ≡ Some x
found_at test [] k x there passes alone = absurd (none-some x there)
found_at test (y ∷ xs) zero x there passes alone =
    let same = same_Some y x there in
    cond-true (test y) (Some y) (find test xs) (ap test same ∙ passes) ∙ there
found_at test (y ∷ xs) (suc k) x there passes alone =
    let fails : test y ≡ false = false_from_ne_true (test y) (λ also. let one : zero ≡ suc k = alone zero y refl also in omega arith) in
    cond-false (test y) (Some y) (find test xs) fails
    ∙ found_at test xs k x there passes (λ j z at also. let one : suc j ≡ suc k = alone (suc j) z at also in omega arith)

-- where none passes, none is found
pub none_found : {X : Type 0} (test : X → Bool) (xs : List X) → ((k : ℕ) (x : X) → slice_get xs k ≡ Some x → test x ≡ false) → find test xs ≡ None
none_found test [] fails = refl
none_found test (x ∷ xs) fails = cond-false (test x) (Some x) (find test xs) (fails zero x refl) ∙ none_found test xs (λ k y at. fails (suc k) y at)

-- what passes of a list is of the list
filtered_by : {X : Type 0} (test : X → Bool) (x : X) (xs : List X) (b : Bool) (k : ℕ) (y : X) → test x ≡ b → ((j : ℕ) → slice_get (filter test xs) j ≡ Some y → (i : ℕ) × (slice_get xs i ≡ Some y) × (test y ≡ true)) → slice_get (cond b (x ∷ filter test xs) (filter test xs)) k ≡ Some y → (i : ℕ) × (slice_get (x ∷ xs) i ≡ Some y) × (test y ≡ true)
filtered_by test x xs false k y is rest there = let at = rest k there in (suc at.0, at.1, at.2)
filtered_by test x xs true zero y is rest there = (zero, there, ap test (sym (same_Some x y there)) ∙ is)
filtered_by test x xs true (suc k) y is rest there = let at = rest k there in (suc at.0, at.1, at.2)

pub filtered_place : {X : Type 0} (test : X → Bool) (xs : List X) (k : ℕ) (y : X) → slice_get (filter test xs) k ≡ Some y → (i : ℕ) × (slice_get xs i ≡ Some y) × (test y ≡ true)
filtered_place test [] k y there = absurd (none-some y there)
filtered_place test (x ∷ xs) k y there = filtered_by test x xs (test x) k y refl (λ j at. filtered_place test xs j y at) there

-- and what passes is there
filtered_behind : {X : Type 0} (b : Bool) (x y : X) (ys : List X) → (k : ℕ) × (slice_get ys k ≡ Some y) → (k : ℕ) × (slice_get (cond b (x ∷ ys) ys) k ≡ Some y)
filtered_behind true x y ys (k, there) = (suc k, there)
filtered_behind false x y ys at = at

pub filtered_at : {X : Type 0} (test : X → Bool) (xs : List X) (i : ℕ) (x : X) → slice_get xs i ≡ Some x → test x ≡ true → (k : ℕ) × (slice_get (filter test xs) k ≡ Some x)
filtered_at test [] i x there passes = absurd (none-some x there)
filtered_at test (y ∷ xs) zero x there passes =
    let here : test y ≡ true = ap test (same_Some y x there) ∙ passes in
    (zero, ap (λ b. slice_get (cond b (y ∷ filter test xs) (filter test xs)) zero) here ∙ there)
filtered_at test (y ∷ xs) (suc i) x there passes = filtered_behind (test y) y x (filter test xs) (filtered_at test xs i x there passes)

-- an item in front of items with other keys
cons_keyed : {X K : Type 0} (key : X → K) (x : X) (xs : List X) → AreKeyed key xs → ((k : ℕ) (z : X) → slice_get xs k ≡ Some z → key x ≡ key z → ⊥) → AreKeyed key (x ∷ xs)
cons_keyed key x xs rest differs zero zero a b at_i at_j same = refl
cons_keyed key x xs rest differs zero (suc j) a b at_i at_j same = absurd (differs j b at_j (ap key (same_Some x a at_i) ∙ same))
cons_keyed key x xs rest differs (suc i) zero a b at_i at_j same = absurd (differs i a at_i (ap key (same_Some x b at_j) ∙ sym same))
cons_keyed key x xs rest differs (suc i) (suc j) a b at_i at_j same = ap (λ n. suc n) (rest i j a b at_i at_j same)

filtered_cons : {X K : Type 0} (key : X → K) (test : X → Bool) (x : X) (xs : List X) (b : Bool) → AreKeyed key (x ∷ xs) → AreKeyed key (filter test xs) → AreKeyed key (cond b (x ∷ filter test xs) (filter test xs))
filtered_cons key test x xs false keyed rest = rest
filtered_cons key test x xs true keyed rest = cons_keyed key x (filter test xs) rest (λ k z there same.
    let at = filtered_place test xs k z there in
    let one : zero ≡ suc at.0 = keyed zero (suc at.0) x z refl at.1 same in
    omega arith)

-- what passes of a list has different keys, where the list has
pub filtered_keyed : {X K : Type 0} (key : X → K) (test : X → Bool) (xs : List X) → AreKeyed key xs → AreKeyed key (filter test xs)
filtered_keyed key test [] keyed = λ i j x y at_i at_j same. absurd (none-some x at_i)
filtered_keyed key test (x ∷ xs) keyed =
    let later : AreKeyed key xs = λ i j y z at_i at_j same. let one : suc i ≡ suc j = keyed (suc i) (suc j) y z at_i at_j same in omega arith in
    filtered_cons key test x xs (test x) keyed (filtered_keyed key test xs later)
