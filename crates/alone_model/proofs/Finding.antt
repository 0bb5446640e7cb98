-- What is found in a list that was made of others.
use Rattle.std.proofs.Common.{◌≡◌, ℕ, zero, suc, Bool, true, false, cond, List, [], ◌∷◌, ◌++◌, filter, find, slice_get, Some, refl, sym, ap, ap₂, ◌∙◌, inl, inr}
use Rattle.std.proofs.lemmas.Bool.{false≢true, cases_Bool, cond-true, cond-false, false_from_ne_true}
use Rattle.std.proofs.lemmas.Option.{none-some}

pub find_later : {X : Type 0} (test : X → Bool) (xs ys : List X) → ((k : ℕ) (x : X) → slice_get xs k ≡ Some x → test x ≡ false) → find test (xs ++ ys) ≡ find test ys
find_later test [] ys fails = refl
find_later test (x ∷ xs) ys fails = cond-false (test x) (Some x) (find test (xs ++ ys)) (fails zero x refl) ∙ find_later test xs ys (λ k y there. fails (suc k) y there)

pub find_first : {X : Type 0} (test : X → Bool) (xs ys : List X) (x : X) → find test xs ≡ Some x → find test (xs ++ ys) ≡ Some x
find_first test [] ys x found = absurd (none-some x found)
find_first test (y ∷ xs) ys x found = elim (cases_Bool (test y)) [
  | inl passes ↦ cond-true (test y) (Some y) (find test (xs ++ ys)) passes ∙ sym (cond-true (test y) (Some y) (find test xs) passes) ∙ found
  | inr fails ↦ cond-false (test y) (Some y) (find test (xs ++ ys)) fails ∙ find_first test xs ys x (sym (cond-false (test y) (Some y) (find test xs) fails) ∙ found)
]

pub find_kept : {X : Type 0} (test keep : X → Bool) (xs : List X) → ((k : ℕ) (x : X) → slice_get xs k ≡ Some x → test x ≡ true → keep x ≡ true) → find test (filter keep xs) ≡ find test xs
find_kept test keep [] kept = refl
find_kept test keep (x ∷ xs) kept =
    let rest = find_kept test keep xs (λ k y there. kept (suc k) y there) in
    elim (cases_Bool (keep x)) [
      | inl keeps ↦ ap (find test) (cond-true (keep x) (x ∷ filter keep xs) (filter keep xs) keeps) ∙ ap (cond (test x) (Some x)) rest
      | inr drops ↦
          let fails : test x ≡ false = false_from_ne_true (test x) (λ passes. false≢true (sym drops ∙ kept zero x refl passes)) in
          ap (find test) (cond-false (keep x) (x ∷ filter keep xs) (filter keep xs) drops) ∙ rest ∙ sym (cond-false (test x) (Some x) (find test xs) fails)
    ]

pub find_same : {X : Type 0} (test other : X → Bool) (xs : List X) → ((k : ℕ) (x : X) → slice_get xs k ≡ Some x → test x ≡ other x) → find test xs ≡ find other xs
find_same test other [] same = refl
find_same test other (x ∷ xs) same = ap₂ (λ b o. cond b (Some x) o) (same zero x refl) (find_same test other xs (λ k y there. same (suc k) y there))
