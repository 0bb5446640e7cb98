-- Grants that go on are known alike below the slot from which they do.
use Rattle.std.proofs.Common.{◌≡◌, ℕ, zero, suc, ◌<◌, ◌≤◌, ◌⊎◌, inl, inr, Bool, true, false, cond, List, [], ◌∷◌, map, filter, length, slice_get, Option, Some, None, refl, sym, ap, ap₂, ◌∙◌, arith}
use Rattle.std.specs.Prelude.{nat_le, IsSomeAnd}
use Rattle.std.proofs.lemmas.Bool.{leb-true, false_from_ne_true}
use Rattle.soc_base.specs.declared.label.Label.{Label}
use Rattle.bundle_model.specs.declared.world.Grant.{Grant}
use Rattle.lockstep.specs.Seen.{end_seen, as_seen, grants_seen, AreSeenAlike, GrantsAreSeenAlike}

-- a number past the slot
late : (slot below n : ℕ) → below < slot → slot ≤ n → nat_le n below ≡ false
late slot below n before high = false_from_ne_true (nat_le n below) (λ low. let under = leb-true n below low in absurd (omega arith))

-- an end that comes past a slot isn't seen in it
end_unseen : (slot below : ℕ) (end : Option ℕ) → below < slot → IsSomeAnd end (λ n. slot ≤ n) → end_seen below end ≡ None
end_unseen slot below None before high = absurd high
end_unseen slot below (Some n) before high = ap (λ b. cond b (Some n) None) (late slot below n before high)

end_alike : (slot below : ℕ) (old new : Option ℕ) → below < slot → (new ≡ old) ⊎ ((old ≡ None) × IsSomeAnd new (λ end. slot ≤ end)) → end_seen below old ≡ end_seen below new
end_alike slot below old new before (inl same) = ap (end_seen below) (sym same)
end_alike slot below old new before (inr (endless, high)) = ap (end_seen below) endless ∙ sym (end_unseen slot below new before high)

-- the grant is as it was, but that an open one may have an end at the slot or later
abbrev pub StaysOrEnds : ℕ → Grant → Grant → Type 0
StaysOrEnds slot old new = (new.label ≡ old.label) × (new.bundle ≡ old.bundle) × (new.start ≡ old.start) × ((new.end ≡ old.end) ⊎ ((old.end ≡ None) × IsSomeAnd new.end (λ end. slot ≤ end)))

-- the two are seen alike in a slot, and begin in one slot
abbrev Alike : ℕ → Grant → Grant → Type 0
Alike below old new = (as_seen below old ≡ as_seen below new) × (old.start ≡ new.start)

alike : (slot below : ℕ) (old new : Grant) → below < slot → StaysOrEnds slot old new → Alike below old new
alike slot below old new before (label, bundle, start, ends) =
    let seen : as_seen below old ≡ as_seen below new =
    ap₂ (λ (l : Label) (b : ℕ). let grant : Grant = record { label = l; bundle = b; start = old.start; end = end_seen below old.end } in grant) (sym label) (sym bundle)
    ∙ ap₂ (λ (s : ℕ) (e : Option ℕ). let grant : Grant = record { label = new.label; bundle = new.bundle; start = s; end = e } in grant) (sym start) (end_alike slot below old.end new.end before ends) in
    (seen, sym start)

some_by : {X : Type 0} (P Q : X → Type 0) → ((x : X) → P x → Q x) → (o : Option X) → IsSomeAnd o P → IsSomeAnd o Q
some_by P Q f None holds = holds
some_by P Q f (Some x) holds = f x holds

-- grants that all begin past the slot aren't seen in it
seen_none : (below : ℕ) (grants : List Grant) → ((place : ℕ) (grant : Grant) → slice_get grants place ≡ Some grant → nat_le grant.start below ≡ false) → [] ≡ grants_seen below grants
seen_none below [] past = refl
seen_none below (grant ∷ grants) past =
    let rest = filter (λ (g : Grant). nat_le g.start below) grants in
    seen_none below grants (λ place g at. past (suc place) g at)
    ∙ ap (λ b. map (as_seen below) (cond b (grant ∷ rest) rest)) (sym (past zero grant refl))

seen_more : (below : ℕ) (old new : Grant) (early : Bool) (one other : List Grant) → as_seen below old ≡ as_seen below new → map (as_seen below) one ≡ map (as_seen below) other → map (as_seen below) (cond early (old ∷ one) one) ≡ map (as_seen below) (cond early (new ∷ other) other)
seen_more below old new true one other here rest = ap₂ (λ (g : Grant) (gs : List Grant). g ∷ gs) here rest
seen_more below old new false one other here rest = rest

-- grants are seen alike in a slot where each stands at its place among others that are seen like it, and
-- what else is there begins past the slot
seen_by_place : (below : ℕ) (old new : List Grant) → ((place : ℕ) (grant : Grant) → slice_get old place ≡ Some grant → IsSomeAnd (slice_get new place) (Alike below grant)) → ((place : ℕ) (grant : Grant) → slice_get new place ≡ Some grant → length old ≤ place → nat_le grant.start below ≡ false) → grants_seen below old ≡ grants_seen below new
seen_by_place below [] new kept added = seen_none below new (λ place grant at. added place grant at (omega arith))
seen_by_place below (x ∷ xs) [] kept added = absurd (kept zero x refl)
seen_by_place below (x ∷ xs) (y ∷ ys) kept added =
    let (here, start) = kept zero x refl in
    let early = λ (grant : Grant). nat_le grant.start below in
    seen_more below x y (nat_le x.start below) (filter early xs) (filter early ys) here
    (seen_by_place below xs ys (λ place grant at. kept (suc place) grant at) (λ place grant at high. added (suc place) grant at (omega arith)))
    ∙ ap (λ (n : ℕ). map (as_seen below) (cond (nat_le n below) (y ∷ filter early ys) (filter early ys))) start

-- the same where what is kept of a grant is told by a relation of the reader's own
pub seen_alike_by : (Keeps : Grant → Grant → Type 0) (slot : ℕ) (old new : List Grant) → ((one other : Grant) → Keeps one other → StaysOrEnds slot one other) → ((place : ℕ) (grant : Grant) → slice_get old place ≡ Some grant → IsSomeAnd (slice_get new place) (Keeps grant)) → ((place : ℕ) (grant : Grant) → slice_get new place ≡ Some grant → length old ≤ place → slot ≤ grant.start) → AreSeenAlike slot old new
seen_alike_by Keeps slot old new parts kept added below before =
    seen_by_place below old new
    (λ place grant at. some_by (Keeps grant) (Alike below grant) (λ other keeps. alike slot below grant other before (parts grant other keeps)) (slice_get new place) (kept place grant at))
    (λ place grant at high. late slot below grant.start before (added place grant at high))

pub grants_are_seen_alike : GrantsAreSeenAlike
grants_are_seen_alike slot old new kept added =
    seen_alike_by (StaysOrEnds slot) slot old new (λ one other keeps. keeps) kept added
