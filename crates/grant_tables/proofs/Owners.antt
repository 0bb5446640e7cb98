-- The entries of grants on one tile: of the grants that are present in a slot at most one has an entry at a
-- place, and it has one there.
use Rattle.std.proofs.Common.{◌≡◌, ℕ, List, [], filter, slice_get, Option, Some, None, option_map, refl, sym, ap, ◌∙◌, arith}
use Rattle.std.specs.Option.{option_map_or}
use Rattle.std.proofs.lemmas.Bool.{eqb-true, eq-eqb}
use Rattle.std.proofs.lemmas.Option.{none-some, slice_get-map}
use Rattle.bundle_model.specs.declared.bundle.Bundle.{Bundle}
use Rattle.bundle_model.specs.declared.resource.Resource.{Resource}
use Rattle.bundle_model.specs.declared.world.World.{World}
use Rattle.bundle_model.specs.declared.world.Grant.{Grant}
use Rattle.bundle_model.specs.Resources.{resources_of}
use Rattle.bundle_model.specs.Grants.{IsApart, bundle_at, grant_resources}
use Rattle.bundle_model.specs.World.{IsSoundCatalog}
use Rattle.bundle_model.specs.WellFormed.{IsWellFormed}
use Rattle.bundle_model.proofs.Laws.{AreKeyed, mapped_place, filtered_place, filtered_at, filtered_keyed, one_claim, IsPresent, PresentHolder, one_holder, sound_bundle}
use Rattle.tdm_network.specs.declared.entries.TableEntry.{TableEntry}
use Rattle.tdm_network.specs.Spots.{spot_of}
use Rattle.grant_tables.specs.Entries.{Placed, bundle_entries, is_on, entries_on, grant_entries}
use Rattle.grant_tables.proofs.Sides.{claim_of, held_place, entry_held}
use Rattle.grant_tables.proofs.Grounds.{IsGrounded, one_claim_there, from_bundle, grounded}

-- an entry of a grant on a tile is one of its bundle
pub record IsOwn (world : World) (tile : ℕ) (grant : Grant) (entry : TableEntry) : Type 0 where
  pub bundle : Bundle
  pub bundled : bundle_at world grant.bundle ≡ Some bundle
  pub place : ℕ
  pub placed : Placed
  pub there : slice_get (bundle_entries world.platform bundle) place ≡ Some placed
  pub on_tile : placed.tile ≡ tile
  pub entry_is : placed.entry ≡ entry

own_of : (world : World) (tile : ℕ) (grant : Grant) (k : ℕ) (entry : TableEntry) (bundle : Option Bundle) → bundle_at world grant.bundle ≡ bundle → slice_get (option_map_or (λ b. entries_on tile (bundle_entries world.platform b)) bundle []) k ≡ Some entry → IsOwn world tile grant entry
own_of world tile grant k entry None is there = absurd (none-some entry there)
own_of world tile grant k entry (Some bundle) is there =
    let mapped = mapped_place (λ (p : Placed). p.entry) (filter (is_on tile) (bundle_entries world.platform bundle)) k entry there in
    let found = filtered_place (is_on tile) (bundle_entries world.platform bundle) k mapped.0 mapped.1 in
    record {
      bundle = bundle;
      bundled = is;
      place = found.0;
      placed = mapped.0;
      there = found.1;
      on_tile = eqb-true mapped.0.tile tile found.2;
      entry_is = mapped.2;
    }

pub own_entry : (world : World) (tile : ℕ) (grant : Grant) (k : ℕ) (entry : TableEntry) → slice_get (grant_entries world tile grant) k ≡ Some entry → IsOwn world tile grant entry
own_entry world tile grant k entry there = own_of world tile grant k entry (bundle_at world grant.bundle) refl there

-- and an entry of the bundle that the tile's tables hold is one of the grant's
pub entry_at : (world : World) (tile : ℕ) (grant : Grant) (bundle : Bundle) (k : ℕ) (p : Placed) → bundle_at world grant.bundle ≡ Some bundle → slice_get (bundle_entries world.platform bundle) k ≡ Some p → p.tile ≡ tile → (m : ℕ) × (slice_get (grant_entries world tile grant) m ≡ Some p.entry)
entry_at world tile grant bundle k p bundled there on_tile =
    let entries = bundle_entries world.platform bundle in
    let at = filtered_at (is_on tile) entries k p there (eq-eqb p.tile tile on_tile) in (
      at.0,
      ap (λ o. slice_get (option_map_or (λ b. entries_on tile (bundle_entries world.platform b)) o []) at.0) bundled
          ∙ slice_get-map (λ (q : Placed). q.entry) (filter (is_on tile) entries) at.0 ∙ ap (option_map (λ (q : Placed). q.entry)) at.1,
    )

pub own_grounded : (world : World) (tile : ℕ) (grant : Grant) (entry : TableEntry) → IsSoundCatalog world → (x : IsOwn world tile grant entry) → IsGrounded world.platform x.placed
own_grounded world tile grant entry sound x =
    grounded world.platform x.bundle x.placed (sound_bundle world grant.bundle x.bundle sound x.bundled) (from_bundle world.platform x.bundle x.place x.placed x.there)

own_held : (world : World) (tile : ℕ) (grant : Grant) (entry : TableEntry) (x : IsOwn world tile grant entry) → slice_get (grant_resources world grant) (held_place x.bundle x.place) ≡ Some x.placed.claim
own_held world tile grant entry x =
    ap (λ o. slice_get (option_map_or (resources_of world.platform) o []) (held_place x.bundle x.place)) x.bundled
    ∙ entry_held world.platform x.bundle x.place x.placed x.there

own_claims : (world : World) (tile : ℕ) (one other : Grant) (a b : TableEntry) → IsSoundCatalog world → (x : IsOwn world tile one a) → (y : IsOwn world tile other b) → spot_of a ≡ spot_of b → x.placed.claim ≡ y.placed.claim
own_claims world tile one other a b sound x y same =
    one_claim_there world.platform x.placed y.placed (own_grounded world tile one a sound x) (own_grounded world tile other b sound y) (x.on_tile ∙ sym y.on_tile)
    (ap spot_of x.entry_is ∙ same ∙ ap spot_of (sym y.entry_is))

-- a grant that is present in a slot, and an entry that its bundle has on a tile
pub record PresentOwner (world : World) (grants : List Grant) (slot tile : ℕ) (entry : TableEntry) : Type 0 where
  pub index : ℕ
  pub grant : Grant
  pub present : IsPresent grants slot index grant
  pub own : IsOwn world tile grant entry

-- it holds the entry's claim
abbrev owner_holds : (world : World) (grants : List Grant) (slot tile : ℕ) (entry : TableEntry) (claim : Resource) → (x : PresentOwner world grants slot tile entry) → x.own.placed.claim ≡ claim → PresentHolder world grants slot claim
owner_holds world grants slot tile entry claim x same = record {
  index = x.index;
  grant = x.grant;
  present = x.present;
  place = held_place x.own.bundle x.own.place;
  held = own_held world tile x.grant entry x.own ∙ ap (λ r. Some r) same;
}

-- present grants that have entries at one place are one
pub one_owner : (world : World) (grants : List Grant) (slot tile : ℕ) (a b : TableEntry) → IsSoundCatalog world → IsApart world grants → (x : PresentOwner world grants slot tile a) (y : PresentOwner world grants slot tile b) → spot_of a ≡ spot_of b → x.index ≡ y.index
one_owner world grants slot tile a b sound apart x y same =
    let claim : Resource = x.own.placed.claim in
    one_holder world grants slot claim apart (owner_holds world grants slot tile a claim x refl)
    (owner_holds world grants slot tile b claim y (sym (own_claims world tile x.grant y.grant a b sound x.own y.own same)))

entries_keyed : (world : World) (bundle : Bundle) → IsWellFormed world.platform bundle → AreKeyed claim_of (bundle_entries world.platform bundle)
entries_keyed world bundle formed i j p q at_i at_j same =
    let one : held_place bundle i ≡ held_place bundle j = one_claim world.platform bundle (held_place bundle i) (held_place bundle j) p.claim q.claim formed (entry_held world.platform bundle i p at_i) (entry_held world.platform bundle j q at_j) same in
    omega (arith, one)

apart_of : (world : World) (tile : ℕ) (grant : Grant) (bundle : Option Bundle) → bundle_at world grant.bundle ≡ bundle → IsSoundCatalog world → AreKeyed spot_of (option_map_or (λ b. entries_on tile (bundle_entries world.platform b)) bundle [])
apart_of world tile grant None is sound = λ i j a b at_i at_j same. absurd (none-some a at_i)
apart_of world tile grant (Some bundle) is sound = λ i j a b at_i at_j same.
    let entries = bundle_entries world.platform bundle in
    let formed = sound_bundle world grant.bundle bundle sound is in
    let p = mapped_place (λ (x : Placed). x.entry) (filter (is_on tile) entries) i a at_i in
    let q = mapped_place (λ (x : Placed). x.entry) (filter (is_on tile) entries) j b at_j in
    let first = filtered_place (is_on tile) entries i p.0 p.1 in
    let second = filtered_place (is_on tile) entries j q.0 q.1 in
    let claim = one_claim_there world.platform p.0 q.0
    (grounded world.platform bundle p.0 formed (from_bundle world.platform bundle first.0 p.0 first.1))
    (grounded world.platform bundle q.0 formed (from_bundle world.platform bundle second.0 q.0 second.1))
    (eqb-true p.0.tile tile first.2 ∙ sym (eqb-true q.0.tile tile second.2))
    (ap spot_of p.2 ∙ same ∙ ap spot_of (sym q.2)) in
    filtered_keyed claim_of (is_on tile) entries (entries_keyed world bundle formed) i j p.0 q.0 p.1 q.1 claim

-- a grant has at most one entry at a place
pub own_apart : (world : World) (tile : ℕ) (grant : Grant) → IsSoundCatalog world → AreKeyed spot_of (grant_entries world tile grant)
own_apart world tile grant sound = apart_of world tile grant (bundle_at world grant.bundle) refl sound
