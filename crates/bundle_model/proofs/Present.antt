-- Of the grants that are present in a slot at most one holds a resource.
use Rattle.std.proofs.Common.{◌≡◌, ℕ, zero, suc, ◌+◌, ◌<◌, ◌≤◌, ◌⊎◌, nat_lt, ◌==◌, ◌&&◌, Bool, true, List, [], ◌∷◌, slice_get, Option, Some, None, IsTrue, IsSomeAnd, refl, ap, ◌∙◌, inl, inr, arith}
use Rattle.std.specs.List.{list_any}
use Rattle.std.proofs.lemmas.Bool.{cases_order, and_parts, or_left, or_right, and_from, ltb-true, leb-true, le-leb, eq-eqb}
use Rattle.std.proofs.lemmas.Option.{none-some, same_Some}
use Rattle.bundle_model.specs.declared.resource.Resource.{Resource}
use Rattle.bundle_model.specs.declared.resource.Resource.TheVariants.{Partition, Span, Port, Inject, LinkSlot, Deliver}
use Rattle.bundle_model.specs.declared.world.World.{World}
use Rattle.bundle_model.specs.declared.world.Grant.{Grant}
use Rattle.bundle_model.specs.Resources.{shares_byte, meets_of}
use Rattle.bundle_model.specs.Grants.{IsApart, EndsBefore, grant_resources, do_meet, lasts_to, stands_at}
use Rattle.bundle_model.proofs.Keyed.{pair_at}

-- a grant that has begun by a slot and isn't over before it: it stands at the slot or at the next, or
-- both. One that ends in the slot is present in it still.
pub record IsPresent (grants : List Grant) (slot at : ℕ) (grant : Grant) : Type 0 where
  pub there : slice_get grants at ≡ Some grant
  pub begun : grant.start ≤ slot
  pub lasts : lasts_to slot grant.end ≡ true

-- a grant that lasts to a slot lasts to the one before
pub lasts_less : (slot : ℕ) (end : Option ℕ) → lasts_to (slot + 1) end ≡ true → lasts_to slot end ≡ true
lasts_less slot None lasts = refl
lasts_less slot (Some end) lasts = let later = leb-true (slot + 1) end lasts in le-leb slot end (omega arith)

-- of two present grants none ends before the other begins
not_before : (slot start : ℕ) (end : Option ℕ) → lasts_to slot end ≡ true → start ≤ slot → IsSomeAnd end (λ e. e < start) → ⊥
not_before slot start None lasts begun before = before
not_before slot start (Some end) lasts begun before = let later = leb-true slot end lasts in omega arith

-- so their resources don't meet
pub present_unmet : (world : World) (grants : List Grant) (slot i j : ℕ) (one other : Grant) → IsApart world grants → i < j → IsPresent grants slot i one → IsPresent grants slot j other → do_meet world one other ≡ true → ⊥
present_unmet world grants slot i j one other apart before x y meet =
    elim (pair_at (λ (a b : Grant). IsTrue (do_meet world a b) → EndsBefore a b ⊎ EndsBefore b a) grants i j one other apart.apart before x.there y.there meet) [
      | inl first ↦ not_before slot other.start one.end x.lasts y.begun first
      | inr last ↦ not_before slot one.start other.end y.lasts x.begun last
    ]

-- a grant that stands at a slot is present in it, and one that stands at the next too
pub present_now : (grants : List Grant) (slot at : ℕ) (grant : Grant) → slice_get grants at ≡ Some grant → stands_at slot grant ≡ true → IsPresent grants slot at grant
present_now grants slot at grant there stands =
    let both = and_parts (nat_lt grant.start slot) (lasts_to slot grant.end) stands in
    let begun : grant.start < slot = ltb-true grant.start slot both.0 in
    record { there = there; begun = omega arith; lasts = both.1 }

pub present_next : (grants : List Grant) (slot at : ℕ) (grant : Grant) → slice_get grants at ≡ Some grant → stands_at (slot + 1) grant ≡ true → IsPresent grants slot at grant
present_next grants slot at grant there stands =
    let both = and_parts (nat_lt grant.start (slot + 1)) (lasts_to (slot + 1) grant.end) stands in
    let begun : grant.start < slot + 1 = ltb-true grant.start (slot + 1) both.0 in
    record { there = there; begun = omega arith; lasts = lasts_less slot grant.end both.1 }

any_at : {X : Type 0} (test : X → Bool) (xs : List X) (k : ℕ) (x : X) → slice_get xs k ≡ Some x → test x ≡ true → list_any test xs ≡ true
any_at test [] k x there passes = absurd (none-some x there)
any_at test (y ∷ xs) zero x there passes = or_left (test y) (list_any test xs) (ap test (same_Some y x there) ∙ passes)
any_at test (y ∷ xs) (suc k) x there passes = or_right (test y) (list_any test xs) (any_at test xs k x there passes)

same_number : (n : ℕ) → (n == n) ≡ true
same_number n = eq-eqb n n refl

two_same : (n m : ℕ) → (n == n && m == m) ≡ true
two_same n m = and_from (n == n) (m == m) (same_number n) (same_number m)

-- a resource meets itself
pub meets_itself : (r : Resource) → meets_of r r ≡ true
meets_itself (Partition tile slot) = or_left _ _ (two_same tile slot)
meets_itself (Span tile base len) = or_left _ (shares_byte (Span tile base len) (Span tile base len)) (and_from (tile == tile && base == base) (len == len) (two_same tile base) (same_number len))
meets_itself (Port tile port) = or_left _ _ (two_same tile port)
meets_itself (Inject tile slot) = or_left _ _ (two_same tile slot)
meets_itself (LinkSlot link slot) = or_left _ _ (two_same link slot)
meets_itself (Deliver tile slot) = or_left _ _ (two_same tile slot)

-- a grant that is present in a slot, and a resource that it holds
pub record PresentHolder (world : World) (grants : List Grant) (slot : ℕ) (resource : Resource) : Type 0 where
  pub index : ℕ
  pub grant : Grant
  pub present : IsPresent grants slot index grant
  pub place : ℕ
  pub held : slice_get (grant_resources world grant) place ≡ Some resource

-- two that hold one resource meet
holders_meet : (world : World) (grants : List Grant) (slot : ℕ) (resource : Resource) (x y : PresentHolder world grants slot resource) → do_meet world x.grant y.grant ≡ true
holders_meet world grants slot resource x y =
    any_at (λ wanted. list_any (λ held. meets_of held wanted) (grant_resources world x.grant)) (grant_resources world y.grant) y.place resource y.held
    (any_at (λ held. meets_of held resource) (grant_resources world x.grant) x.place resource x.held (meets_itself resource))

-- so at most one of the grants that are present in a slot holds a resource
pub one_holder : (world : World) (grants : List Grant) (slot : ℕ) (resource : Resource) → IsApart world grants → (x y : PresentHolder world grants slot resource) → x.index ≡ y.index
one_holder world grants slot resource apart x y = elim (cases_order x.index y.index) [
  | inl same ↦ same
  | inr (inl before) ↦ absurd (present_unmet world grants slot x.index y.index x.grant y.grant apart before x.present y.present (holders_meet world grants slot resource x y))
  | inr (inr behind) ↦ absurd (present_unmet world grants slot y.index x.index y.grant x.grant apart behind y.present x.present (holders_meet world grants slot resource y x))
]
