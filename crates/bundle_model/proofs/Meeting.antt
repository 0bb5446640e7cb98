-- Parts of one tile whose bundles hold no resources that meet share no partition slot and no byte.
use Rattle.std.proofs.Common.{◌≡◌, ℕ, zero, suc, ◌+◌, ◌<◌, ◌≤◌, ◌⊎◌, min, max, nat_lt, ◌==◌, ◌&&◌, Bool, true, false, List, [], ◌∷◌, ◌++◌, map, slice_get, Some, refl, sym, ap, ◌∙◌, inl, inr, true≢false, arith}
use Rattle.std.specs.List.{list_any, flat_map}
use Rattle.std.specs.Option.{option_map_or}
use Rattle.std.proofs.lemmas.Bool.{cases_lt, or_cases, or_left, or_right, and_from, eq-eqb, eqb-true, lt-ltb}
use Rattle.std.proofs.lemmas.List.Folds.{list_any-append}
use Rattle.std.proofs.lemmas.Option.{none-some, same_Some}
use Rattle.soc_base.specs.Time.{is_among}
use Rattle.bundle_model.specs.declared.bundle.Part.{Part}
use Rattle.bundle_model.specs.declared.bundle.Bundle.{Bundle}
use Rattle.bundle_model.specs.declared.resource.Resource.{Resource}
use Rattle.bundle_model.specs.declared.resource.Resource.TheVariants.{Partition, Span, Port}
use Rattle.bundle_model.specs.declared.world.World.{World}
use Rattle.bundle_model.specs.declared.world.Grant.{Grant}
use Rattle.soc_base.specs.Slots.{slots_of}
use Rattle.bundle_model.specs.WellFormed.{IsWellFormedPart}
use Rattle.bundle_model.specs.Resources.{part_resources, resources_of, is_same, shares_byte, meets_of}
use Rattle.bundle_model.specs.Grants.{bundle_at, grant_resources, do_meet}

-- two parts share no partition slot and no byte
pub record AreDisjoint (one other : Part) : Type 0 where
  pub slots : (slot : ℕ) → is_among slot (slots_of one.slots) ≡ true → is_among slot (slots_of other.slots) ≡ true → ⊥
  pub regions : (one.region.base + one.region.len ≤ other.region.base) ⊎ (other.region.base + other.region.len ≤ one.region.base)

any_front : {X : Type 0} (test : X → Bool) (xs ys : List X) → list_any test xs ≡ true → list_any test (xs ++ ys) ≡ true
any_front test xs ys found = list_any-append test xs ys ∙ or_left (list_any test xs) (list_any test ys) found

any_back : {X : Type 0} (test : X → Bool) (xs ys : List X) → list_any test ys ≡ true → list_any test (xs ++ ys) ≡ true
any_back test xs ys found = list_any-append test xs ys ∙ or_right (list_any test xs) (list_any test ys) found

any_among : {X Y : Type 0} (test : Y → Bool) (f : X → List Y) (xs : List X) (k : ℕ) (x : X) → slice_get xs k ≡ Some x → list_any test (f x) ≡ true → list_any test (flat_map f xs) ≡ true
any_among test f [] k x there found = absurd (none-some x there)
any_among test f (y ∷ xs) zero x there found = any_front test (f y) (flat_map f xs) (ap (λ z. list_any test (f z)) (same_Some y x there) ∙ found)
any_among test f (y ∷ xs) (suc k) x there found = any_back test (f y) (flat_map f xs) (any_among test f xs k x there found)

any_slot : (test : Resource → Bool) (tile slot : ℕ) (slots : List ℕ) → is_among slot slots ≡ true → test (Partition tile slot) ≡ true → list_any test (map (Partition tile) slots) ≡ true
any_slot test tile slot [] among passes = absurd (true≢false (sym among))
any_slot test tile slot (first ∷ slots) among passes = elim (or_cases (first == slot) (is_among slot slots) among) [
  | inl here ↦ or_left (test (Partition tile first)) (list_any test (map (Partition tile) slots)) (ap (λ s. test (Partition tile s)) (eqb-true first slot here) ∙ passes)
  | inr later ↦ or_right (test (Partition tile first)) (list_any test (map (Partition tile) slots)) (any_slot test tile slot slots later passes)
]

-- a partition slot of a part is among its resources, and so is its region
slot_held : (test : Resource → Bool) (part : Part) (slot : ℕ) → is_among slot (slots_of part.slots) ≡ true → test (Partition part.tile slot) ≡ true → list_any test (part_resources part) ≡ true
slot_held test part slot among passes = any_front test (map (Partition part.tile) (slots_of part.slots)) _ (any_slot test part.tile slot (slots_of part.slots) among passes)

span_held : (test : Resource → Bool) (part : Part) → test (Span part.tile part.region.base part.region.len) ≡ true → list_any test (part_resources part) ≡ true
span_held test part passes =
    any_back test (map (Partition part.tile) (slots_of part.slots)) _ (or_left (test (Span part.tile part.region.base part.region.len)) (list_any test (map (Port part.tile) part.ports)) passes)

-- a grant and the part of its bundle at a place
pub record HasPart (world : World) (grant : Grant) (part : Part) : Type 0 where
  pub bundle : Bundle
  pub bundled : bundle_at world grant.bundle ≡ Some bundle
  pub place : ℕ
  pub there : slice_get bundle.parts place ≡ Some part
  pub sound : IsWellFormedPart world.platform part

any_held : (world : World) (grant : Grant) (part : Part) (test : Resource → Bool) → HasPart world grant part → list_any test (part_resources part) ≡ true → list_any test (grant_resources world grant) ≡ true
any_held world grant part test has found =
    ap (λ bundle. list_any test (option_map_or (resources_of world.platform) bundle [])) has.bundled
    ∙ any_front test (flat_map part_resources has.bundle.parts) _ (any_among test part_resources has.bundle.parts has.place part has.there found)

-- a part holds a resource
abbrev HoldsResource : Part → Resource → Type 0
HoldsResource part resource = (test : Resource → Bool) → test resource ≡ true → list_any test (part_resources part) ≡ true

they_meet : (world : World) (one other : Grant) (one_part other_part : Part) (held resource : Resource) → HasPart world one one_part → HasPart world other other_part → HoldsResource one_part held → HoldsResource other_part resource → meets_of held resource ≡ true → do_meet world one other ≡ true
they_meet world one other one_part other_part held resource has_one has_other holds_one holds_other meet =
    let meets : Resource → Bool = λ wanted. list_any (λ h. meets_of h wanted) (grant_resources world one) in
    any_held world other other_part meets has_other (holds_other meets (any_held world one one_part (λ h. meets_of h resource) has_one (holds_one (λ h. meets_of h resource) meet)))

-- the spans of regions that share a byte meet
spans_meet : (tile at base len other_at size : ℕ) → tile ≡ at → base < other_at + size → other_at < base + len → 0 < len → 0 < size → meets_of (Span tile base len) (Span at other_at size) ≡ true
spans_meet tile at base len other_at size same before behind some other_some =
    let later : max base other_at < min (base + len) (other_at + size) = omega arith in
    or_right (is_same (Span tile base len) (Span at other_at size)) (shares_byte (Span tile base len) (Span at other_at size))
    (and_from (tile == at) (nat_lt (max base other_at) (min (base + len) (other_at + size))) (eq-eqb tile at same) (lt-ltb (max base other_at) (min (base + len) (other_at + size)) later))

-- where the grants' resources don't meet, the parts of one tile are disjoint
pub parts_disjoint : (world : World) (one other : Grant) (one_part other_part : Part) → HasPart world one one_part → HasPart world other other_part → one_part.tile ≡ other_part.tile → (do_meet world one other ≡ true → ⊥) → AreDisjoint one_part other_part
parts_disjoint world one other one_part other_part has_one has_other same_tile apart = record {
  slots = λ slot in_one in_other.
      let same : meets_of (Partition one_part.tile slot) (Partition other_part.tile slot) ≡ true =
      or_left (one_part.tile == other_part.tile && slot == slot) false (and_from (one_part.tile == other_part.tile) (slot == slot) (eq-eqb one_part.tile other_part.tile same_tile) (eq-eqb slot slot refl)) in
      apart (they_meet world one other one_part other_part (Partition one_part.tile slot) (Partition other_part.tile slot) has_one has_other
      (λ test passes. slot_held test one_part slot in_one passes) (λ test passes. slot_held test other_part slot in_other passes) same);
  regions = elim (cases_lt other_part.region.base (one_part.region.base + one_part.region.len)) [
    | inr before ↦ inl before
    | inl behind ↦ elim (cases_lt one_part.region.base (other_part.region.base + other_part.region.len)) [
      | inr after ↦ inr after
      | inl ahead ↦
          let meet = spans_meet one_part.tile other_part.tile one_part.region.base one_part.region.len other_part.region.base other_part.region.len same_tile ahead behind
          (let least = has_one.sound.least_len in omega arith) (let least = has_other.sound.least_len in omega arith) in
          absurd (apart (they_meet world one other one_part other_part _ _ has_one has_other (λ test passes. span_held test one_part passes) (λ test passes. span_held test other_part passes) meet))
    ]
  ];
}
