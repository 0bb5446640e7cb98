-- The parts of grants that stand in one slot share nothing.
use Rattle.std.proofs.Common.{◌≡◌, ◌≢◌, ℕ, ◌==◌, true, List, slice_get, find, Some, Result, Ok, Err, Contains, IfOk, refl, sym, ap, ap₂, ◌∙◌, subst, inl, inr}
use Rattle.std.proofs.lemmas.Bool.{cases_order, and_parts, and_from, eqb-true, eq-eqb}
use Rattle.std.proofs.lemmas.Option.{none-some, same_Some, option_and_then_some}
use Rattle.soc_base.specs.declared.label.Label.{Label}
use Rattle.bundle_model.specs.declared.bundle.Part.{Part}
use Rattle.bundle_model.specs.declared.bundle.Bundle.{Bundle}
use Rattle.bundle_model.specs.declared.rules.BRule.{BRule}
use Rattle.bundle_model.specs.declared.world.Named.{Named}
use Rattle.bundle_model.specs.declared.world.World.{World}
use Rattle.bundle_model.specs.declared.world.LoadName.{LoadName}
use Rattle.bundle_model.specs.declared.world.Grant.{Grant}
use Rattle.bundle_model.specs.WellFormed.{IsWellFormedPart, IsWellFormed}
use Rattle.bundle_model.specs.Grants.{bundle_at, kept_bundle, stands_at, IsApart}
use Rattle.bundle_model.specs.World.{same_label, part_on, IsSoundCatalog, AreOfLoads}
use Rattle.bundle_model.proofs.Keyed.{AreKeyed, at_place, contained_place, found_place}
use Rattle.bundle_model.proofs.Present.{present_now, present_unmet}
use Rattle.bundle_model.proofs.Meeting.{AreDisjoint, HasPart, parts_disjoint}

-- labels that are found to be one are one
pub same_so : (one other : Label) → same_label one other ≡ true → one ≡ other
same_so one other same =
    let both = and_parts (one.session == other.session) (one.load == other.load) same in
    ap₂ (λ s l. record { session = s; load = l }) (eqb-true one.session other.session both.0) (eqb-true one.load other.load both.1)

pub same_label-itself : (label : Label) → same_label label label ≡ true
same_label-itself label = and_from (label.session == label.session) (label.load == label.load) (eq-eqb label.session label.session refl) (eq-eqb label.load label.load refl)

kept_sound : (P : Bundle → Type 0) (judged : Result Bundle BRule) (bundle : Bundle) → IfOk judged P → kept_bundle judged ≡ Some bundle → P bundle
kept_sound P (Ok kept) bundle sound is = subst P (same_Some kept bundle is) sound
kept_sound P (Err rule) bundle sound is = absurd (none-some bundle is)

pub sound_bundle : (world : World) (place : ℕ) (bundle : Bundle) → IsSoundCatalog world → bundle_at world place ≡ Some bundle → IsWellFormed world.platform bundle
sound_bundle world place bundle sound is =
    option_and_then_some (λ (named : Named). kept_bundle named.judged) (slice_get world.catalog place) bundle is (λ named there kept.
    kept_sound (IsWellFormed world.platform) named.judged bundle (at_place (λ (n : Named). IfOk n.judged (IsWellFormed world.platform)) world.catalog place named sound there) kept)

-- the part of a bundle on a tile
pub record IsPartOn (world : World) (number place : ℕ) (part : Part) : Type 0 where
  pub bundle : Bundle
  pub bundled : bundle_at world place ≡ Some bundle
  pub at : ℕ
  pub there : slice_get bundle.parts at ≡ Some part
  pub tile : part.tile ≡ number
  pub sound : IsWellFormedPart world.platform part

pub is_part_on : (world : World) (number place : ℕ) (part : Part) → IsSoundCatalog world → part_on world number place ≡ Some part → IsPartOn world number place part
is_part_on world number place part sound is =
    option_and_then_some (λ (bundle : Bundle). find (λ p. p.tile == number) bundle.parts) (bundle_at world place) part is (λ bundle bundled found.
    let at = found_place (λ (p : Part). p.tile == number) bundle.parts part found in
    record {
      bundle = bundle;
      bundled = bundled;
      at = at.0;
      there = at.1;
      tile = eqb-true part.tile number at.2;
      sound = at_place (IsWellFormedPart world.platform) bundle.parts at.0 part (sound_bundle world place bundle sound bundled).parts at.1;
    })

-- a grant is of the bundle that its load names
pub grant_bundle : (loads : List LoadName) (grants : List Grant) (at k : ℕ) (grant : Grant) (load : LoadName) → AreKeyed (λ (l : LoadName). l.label) loads → AreOfLoads loads grants → slice_get grants k ≡ Some grant → slice_get loads at ≡ Some load → grant.label ≡ load.label → grant.bundle ≡ load.bundle
grant_bundle loads grants at k grant load keyed of there load_there same =
    let named : LoadName = record { label = grant.label; bundle = grant.bundle } in
    let contained = contained_place loads named (at_place (λ (g : Grant). Contains loads (record { label = g.label; bundle = g.bundle })) grants k grant of there) in
    let one : at ≡ contained.0 = keyed at contained.0 load named load_there contained.1 (sym same) in
    let load_is : load ≡ named = same_Some load named (sym load_there ∙ ap (slice_get loads) one ∙ contained.1) in
    sym (ap (λ (l : LoadName). l.bundle) load_is)

disjoint_sym : (one other : Part) → AreDisjoint one other → AreDisjoint other one
disjoint_sym one other apart = record {
  slots = λ slot in_other in_one. apart.slots slot in_one in_other;
  regions = elim apart.regions [ inl before ↦ inr before | inr behind ↦ inl behind ];
}

-- a grant that stands at a slot, and a part of its bundle
pub record StandingPart (world : World) (grants : List Grant) (slot : ℕ) (part : Part) : Type 0 where
  pub index : ℕ
  pub grant : Grant
  pub there : slice_get grants index ≡ Some grant
  pub stands : stands_at slot grant ≡ true
  pub has : HasPart world grant part

-- THE LAW OF HOLDERS, for parts: where two grants stand in one slot, their parts of one tile share no
-- partition slot and no byte
pub standing_disjoint : (world : World) (grants : List Grant) (slot : ℕ) (one other : Part) → IsApart world grants → (x : StandingPart world grants slot one) (y : StandingPart world grants slot other) → x.index ≢ y.index → one.tile ≡ other.tile → AreDisjoint one other
standing_disjoint world grants slot one other apart x y differ tile =
    let first = present_now grants slot x.index x.grant x.there x.stands in
    let second = present_now grants slot y.index y.grant y.there y.stands in
    elim (cases_order x.index y.index) [
      | inl same ↦ absurd (differ same)
      | inr (inl before) ↦ parts_disjoint world x.grant y.grant one other x.has y.has tile (present_unmet world grants slot x.index y.index x.grant y.grant apart before first second)
      | inr (inr behind) ↦ disjoint_sym other one (parts_disjoint world y.grant x.grant other one y.has x.has (sym tile) (present_unmet world grants slot y.index x.index y.grant x.grant apart behind second first))
    ]
