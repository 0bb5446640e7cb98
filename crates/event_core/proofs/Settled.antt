-- What every lemma here is about, and the grants that hold something in a slot.
use Rattle.std.proofs.Common.{◌≡◌, ℕ, ◌+◌, ◌<◌, ◌≤◌, ◌⊎◌, true, nat_lt, List, [], slice_get, Option, Some, None, refl, sym, ap, ap₂, ◌∙◌, inl, inr, arith}
use Rattle.std.specs.Option.{option_map_or}
use Rattle.std.proofs.lemmas.Bool.{cases_order, and_parts, and_from, ltb-true, lt-ltb, leb-true, le-leb}
use Rattle.std.proofs.lemmas.Option.{same_Some}
use Rattle.bundle_model.specs.declared.bundle.End.{End}
use Rattle.bundle_model.specs.declared.bundle.Bundle.{Bundle}
use Rattle.bundle_model.specs.declared.resource.Resource.{Resource}
use Rattle.bundle_model.specs.declared.resource.Resource.TheVariants.{Port}
use Rattle.bundle_model.specs.declared.world.World.{World}
use Rattle.bundle_model.specs.declared.world.LoadName.{LoadName}
use Rattle.bundle_model.specs.declared.world.Grant.{Grant}
use Rattle.bundle_model.specs.Resources.{resources_of}
use Rattle.bundle_model.specs.Grants.{IsApart, bundle_at, grant_resources, lasts_to, stands_at}
use Rattle.bundle_model.specs.WellFormed.{IsHeldEnd, IsWellFormed}
use Rattle.bundle_model.specs.World.{IsSoundWorld, IsSoundCatalog, AreOfLoads}
use Rattle.bundle_model.proofs.Laws.{IsPresent, present_next, PresentHolder, one_holder, sound_bundle, port_held}
use Rattle.grant_tables.specs.Claims.{Holder}

-- a sound world, and grants that are apart and of its loads
pub record IsSettled (world : World) (loads : List LoadName) (grants : List Grant) : Type 0 where
  pub sound : IsSoundWorld world loads
  pub apart : IsApart world grants
  pub of_loads : AreOfLoads loads grants

-- a grant that stands at a slot began before it, and lasts to it
pub stands_parts : (slot : ℕ) (grant : Grant) → stands_at slot grant ≡ true → (grant.start < slot) × (lasts_to slot grant.end ≡ true)
stands_parts slot grant stands =
    let both = and_parts (nat_lt grant.start slot) (lasts_to slot grant.end) stands in
    (ltb-true grant.start slot both.0, both.1)

pub stands_from : (slot : ℕ) (grant : Grant) → grant.start < slot → lasts_to slot grant.end ≡ true → stands_at slot grant ≡ true
stands_from slot grant begun lasts = and_from (nat_lt grant.start slot) (lasts_to slot grant.end) (lt-ltb grant.start slot begun) lasts

-- one that lasts to a slot lasts to an earlier one
pub lasts_back : (n m : ℕ) (end : Option ℕ) → n ≤ m → lasts_to m end ≡ true → lasts_to n end ≡ true
lasts_back n m None low lasts = refl
lasts_back n m (Some end) low lasts = let later = leb-true m end lasts in le-leb n end (omega arith)

-- nothing stands at the beginning
pub none_stands : (world : World) (grants : List Grant) → Holder world grants 0 → ⊥
none_stands world grants x = let low = (stands_parts 0 x.grant x.stands).0 in omega arith

-- a grant that stands at the next slot began by this one
pub begun_by : (world : World) (grants : List Grant) (slot : ℕ) (x : Holder world grants (slot + 1)) → x.grant.start ≤ slot
begun_by world grants slot x = let low = (stands_parts (slot + 1) x.grant x.stands).0 in omega arith

-- it stood at this slot, or begins in it
pub earlier : (world : World) (grants : List Grant) (slot : ℕ) (x : Holder world grants (slot + 1)) → (x.grant.start < slot) ⊎ (x.grant.start ≡ slot)
earlier world grants slot x = elim (cases_order x.grant.start slot) [
  | inl same ↦ inr same
  | inr (inl before) ↦ inl before
  | inr (inr behind) ↦ let low = begun_by world grants slot x in absurd (omega arith)
]

-- so it is a holder at an earlier slot after its start
abbrev pub back : (world : World) (grants : List Grant) (slot now : ℕ) (x : Holder world grants slot) → x.grant.start < now → now ≤ slot → Holder world grants now
back world grants slot now x begun before = record {
  index = x.index;
  grant = x.grant;
  granted = x.granted;
  stands = stands_from now x.grant begun (lasts_back now slot x.grant.end before (stands_parts slot x.grant x.stands).1);
  bundle = x.bundle;
  bundled = x.bundled;
}

-- its bundle breaks no rule
pub well : (world : World) (grants : List Grant) (slot : ℕ) (x : Holder world grants slot) → IsSoundCatalog world → IsWellFormed world.platform x.bundle
well world grants slot x sound = sound_bundle world x.grant.bundle x.bundle sound x.bundled

-- and its resources are the grant's
pub its_resources : (world : World) (grants : List Grant) (slot : ℕ) (x : Holder world grants slot) → grant_resources world x.grant ≡ resources_of world.platform x.bundle
its_resources world grants slot x = ap (λ (o : Option Bundle). option_map_or (resources_of world.platform) o []) x.bundled

-- holders of one place are one
pub one_grant : (world : World) (grants : List Grant) (slot now : ℕ) (x : Holder world grants slot) (y : Holder world grants now) → x.index ≡ y.index → x.grant ≡ y.grant
one_grant world grants slot now x y same = same_Some x.grant y.grant (sym x.granted ∙ ap (slice_get grants) same ∙ y.granted)

pub one_bundle : (world : World) (grants : List Grant) (slot now : ℕ) (x : Holder world grants slot) (y : Holder world grants now) → x.index ≡ y.index → x.bundle ≡ y.bundle
one_bundle world grants slot now x y same =
    same_Some x.bundle y.bundle (sym x.bundled ∙ ap (λ (g : Grant). bundle_at world g.bundle) (one_grant world grants slot now x y same) ∙ y.bundled)

-- a holder that is present in a slot holds what its bundle does
abbrev pub holds_at : (world : World) (grants : List Grant) (slot now k : ℕ) (resource : Resource) → (x : Holder world grants now) → IsPresent grants slot x.index x.grant → slice_get (resources_of world.platform x.bundle) k ≡ Some resource → PresentHolder world grants slot resource
holds_at world grants slot now k resource x present held = record {
  index = x.index;
  grant = x.grant;
  present = present;
  place = k;
  held = ap (λ (rs : List Resource). slice_get rs k) (its_resources world grants now x) ∙ held;
}

-- one grant that stands holds a port
pub one_port : (world : World) (grants : List Grant) (slot : ℕ) (x y : Holder world grants (slot + 1)) (one other : End) → IsApart world grants → IsHeldEnd x.bundle one → IsHeldEnd y.bundle other → one.tile ≡ other.tile → one.port ≡ other.port → x.bundle ≡ y.bundle
one_port world grants slot x y one other apart mine its tile port =
    let first = port_held world.platform x.bundle mine.place mine.index one.port mine.part mine.there mine.port in
    let second = port_held world.platform y.bundle its.place its.index other.port its.part its.there its.port in
    let resource : Resource = Port mine.part.tile one.port in
    let same : Port its.part.tile other.port ≡ resource = ap₂ Port (its.tile ∙ sym tile ∙ sym mine.tile) (sym port) in
    one_bundle world grants (slot + 1) (slot + 1) x y
    (one_holder world grants slot resource apart
    (holds_at world grants slot (slot + 1) first.0 resource x (present_next grants slot x.index x.grant x.granted x.stands) first.1)
    (holds_at world grants slot (slot + 1) second.0 resource y (present_next grants slot y.index y.grant y.granted y.stands) (second.1 ∙ ap (λ r. Some r) same)))
