-- How a definition that looks through grants by a test of one slot is seen to look at no later grant and end.
use Rattle.std.proofs.Common.{◌≡◌, ℕ, ◌≤◌, Bool, true, false, cond, List, [], ◌∷◌, map, filter, find, fold, Option, Some, refl, sym, ap, ◌∙◌, option_map}
use Rattle.std.specs.Prelude.{nat_le}
use Rattle.std.proofs.lemmas.Bool.{le-leb}
use Rattle.bundle_model.specs.declared.world.Grant.{Grant}
use Rattle.lockstep.specs.Seen.{as_seen, grants_seen}

find_cons : (slot : ℕ) (p : Grant → Bool) (grant : Grant) (passes : Bool) (one other : Option Grant) → option_map (as_seen slot) one ≡ other → option_map (as_seen slot) (cond passes (Some grant) one) ≡ cond passes (Some (as_seen slot grant)) other
find_cons slot p grant true one other same = refl
find_cons slot p grant false one other same = same

find_seen : (slot : ℕ) (p : Grant → Bool) (grant : Grant) (passes early : Bool) (grants : List Grant) → p grant ≡ passes → p (as_seen slot grant) ≡ p grant → (passes ≡ true → early ≡ true) → option_map (as_seen slot) (find p grants) ≡ find p (grants_seen slot grants) → option_map (as_seen slot) (cond passes (Some grant) (find p grants)) ≡ find p (map (as_seen slot) (cond early (grant ∷ filter (λ g. nat_le g.start slot) grants) (filter (λ g. nat_le g.start slot) grants)))
find_seen slot p grant passes true grants is same low rest =
    find_cons slot p grant passes (find p grants) (find p (grants_seen slot grants)) rest ∙ ap (λ b. cond b (Some (as_seen slot grant)) (find p (grants_seen slot grants))) (sym is ∙ sym same)
find_seen slot p grant true false grants is same low rest = let wrong = low refl in cc
find_seen slot p grant false false grants is same low rest = rest

-- what is found by a test that a grant passes only once it began, and whose answer is the same for the
-- grant as it is seen, is found among the grants that are seen
pub find_is_seen : (slot : ℕ) (p : Grant → Bool) → ((grant : Grant) → p (as_seen slot grant) ≡ p grant) → ((grant : Grant) → p grant ≡ true → grant.start ≤ slot) → (grants : List Grant) → option_map (as_seen slot) (find p grants) ≡ find p (grants_seen slot grants)
find_is_seen slot p same early [] = refl
find_is_seen slot p same early (grant ∷ grants) =
    find_seen slot p grant (p grant) (nat_le grant.start slot) grants refl (same grant) (λ passes. le-leb grant.start slot (early grant passes)) (find_is_seen slot p same early grants)

-- ---- what passes such a test, likewise

filter_cons : (slot : ℕ) (grant : Grant) (passes : Bool) (one other : List Grant) → map (as_seen slot) one ≡ other → map (as_seen slot) (cond passes (grant ∷ one) one) ≡ cond passes (as_seen slot grant ∷ other) other
filter_cons slot grant true one other same = ap (λ grants. as_seen slot grant ∷ grants) same
filter_cons slot grant false one other same = same

filter_seen : (slot : ℕ) (p : Grant → Bool) (grant : Grant) (passes early : Bool) (grants : List Grant) → p grant ≡ passes → p (as_seen slot grant) ≡ p grant → (passes ≡ true → early ≡ true) → map (as_seen slot) (filter p grants) ≡ filter p (grants_seen slot grants) → map (as_seen slot) (cond passes (grant ∷ filter p grants) (filter p grants)) ≡ filter p (map (as_seen slot) (cond early (grant ∷ filter (λ g. nat_le g.start slot) grants) (filter (λ g. nat_le g.start slot) grants)))
filter_seen slot p grant passes true grants is same low rest =
    let seen = filter p (grants_seen slot grants) in
    filter_cons slot grant passes (filter p grants) seen rest ∙ ap (λ b. cond b (as_seen slot grant ∷ seen) seen) (sym is ∙ sym same)
filter_seen slot p grant true false grants is same low rest = let wrong = low refl in cc
filter_seen slot p grant false false grants is same low rest = rest

pub filter_is_seen : (slot : ℕ) (p : Grant → Bool) → ((grant : Grant) → p (as_seen slot grant) ≡ p grant) → ((grant : Grant) → p grant ≡ true → grant.start ≤ slot) → (grants : List Grant) → map (as_seen slot) (filter p grants) ≡ filter p (grants_seen slot grants)
filter_is_seen slot p same early [] = refl
filter_is_seen slot p same early (grant ∷ grants) =
    filter_seen slot p grant (p grant) (nat_le grant.start slot) grants refl (same grant) (λ passes. le-leb grant.start slot (early grant passes)) (filter_is_seen slot p same early grants)

-- so of grants that are known alike in the slot the same pass, as they are seen
pub filter_seen_alike : (slot : ℕ) (p : Grant → Bool) → ((grant : Grant) → p (as_seen slot grant) ≡ p grant) → ((grant : Grant) → p grant ≡ true → grant.start ≤ slot) → (grants other : List Grant) → grants_seen slot grants ≡ grants_seen slot other → map (as_seen slot) (filter p grants) ≡ map (as_seen slot) (filter p other)
filter_seen_alike slot p same early grants other alike =
    filter_is_seen slot p same early grants ∙ ap (filter p) alike ∙ sym (filter_is_seen slot p same early other)

-- what steps make of grants as they are seen, where each step looks at its grant as it is seen alone
fold_as_seen : {X : Type 0} (slot : ℕ) (step : X → Grant → X) → ((x : X) (grant : Grant) → step x (as_seen slot grant) ≡ step x grant) → (grants : List Grant) (x : X) → fold step x grants ≡ fold step x (map (as_seen slot) grants)
fold_as_seen slot step same [] x = refl
fold_as_seen slot step same (grant ∷ grants) x =
    ap (λ y. fold step y grants) (sym (same x grant)) ∙ fold_as_seen slot step same grants (step x (as_seen slot grant))

-- steps over what passes end alike, where the grants are known alike in the slot
pub fold_seen_alike : {X : Type 0} (slot : ℕ) (p : Grant → Bool) → ((grant : Grant) → p (as_seen slot grant) ≡ p grant) → ((grant : Grant) → p grant ≡ true → grant.start ≤ slot) → (step : X → Grant → X) → ((x : X) (grant : Grant) → step x (as_seen slot grant) ≡ step x grant) → (grants other : List Grant) → grants_seen slot grants ≡ grants_seen slot other → (x : X) → fold step x (filter p grants) ≡ fold step x (filter p other)
fold_seen_alike slot p same early step by grants other alike x =
    fold_as_seen slot step by (filter p grants) x
    ∙ ap (fold step x) (filter_seen_alike slot p same early grants other alike)
    ∙ sym (fold_as_seen slot step by (filter p other) x)
