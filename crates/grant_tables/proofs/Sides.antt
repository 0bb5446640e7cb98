-- The entries of a bundle and the claims of its channels go side by side, and where each entry comes from.
use Rattle.std.proofs.Common.{◌≡◌, ℕ, zero, suc, ◌+◌, ◌%◌, ◌⊎◌, List, [], ◌∷◌, ◌++◌, map, length, get_or, slice_get, Some, option_map, refl, sym, ap, ap₂, ◌∙◌, inl, inr, subst, arith}
use Rattle.std.specs.List.{flat_map}
use Rattle.std.proofs.lemmas.List.{map-append}
use Rattle.std.proofs.lemmas.Option.{none-some, same_Some, slice_get-map}
use Rattle.platform_model.specs.declared.platform.Platform.{Platform}
use Rattle.bundle_model.specs.declared.bundle.Bundle.{Bundle}
use Rattle.bundle_model.specs.declared.resource.Resource.{Resource}
use Rattle.bundle_model.specs.declared.resource.Resource.TheVariants.{Inject as InjectSlot, LinkSlot, Deliver as DeliverSlot}
use Rattle.bundle_model.specs.Resources.{part_resources, link_claims, slot_claims, resources_of}
use Rattle.bundle_model.specs.Ways.{Way, ways_of}
use Rattle.bundle_model.proofs.Laws.{append_front, append_back, flat_at, offset, way_claims, resources_by_way}
use Rattle.tdm_network.specs.declared.entries.Source.{Source}
use Rattle.tdm_network.specs.declared.entries.Source.TheVariants.{Local, Input}
use Rattle.tdm_network.specs.declared.entries.TableEntry.TheVariants.{Inject, Out, Deliver}
use Rattle.grant_tables.specs.Entries.{Placed, link_of, link_entries, last_input, slot_entries, way_entries, bundle_entries}
use Rattle.grant_tables.specs.Law.{source_of}

-- the resource whose place an entry has
abbrev pub claim_of : Placed → Resource
claim_of p = p.claim

map_flat : {X Y Z : Type 0} (g : Y → Z) (f : X → List Y) (h : X → List Z) (xs : List X) → ((x : X) → map g (f x) ≡ h x) → map g (flat_map f xs) ≡ flat_map h xs
map_flat g f h [] same = refl
map_flat g f h (x ∷ xs) same = map-append g (f x) (flat_map f xs) ∙ ap₂ (λ a b. a ++ b) (same x) (map_flat g f h xs same)

link_sides : (platform : Platform) (at : ℕ) (source : Source) (path : List ℕ) → map claim_of (link_entries platform at source path) ≡ link_claims platform.table_slots at path
link_sides platform at source [] = refl
link_sides platform at source (number ∷ path) = ap (λ rest. LinkSlot number (at % platform.table_slots) ∷ rest) (link_sides platform (at + 1) (Input (link_of platform number).input) path)

slot_sides : (platform : Platform) (way : Way) (slot : ℕ) → map claim_of (slot_entries platform way slot) ≡ slot_claims platform.table_slots way.from.tile way.to.tile way.path slot
slot_sides platform way slot =
    ap (λ rest. InjectSlot way.from.tile slot ∷ rest)
    (map-append claim_of (link_entries platform (slot + 1) Local way.path) _
    ∙ ap (λ front. front ++ DeliverSlot way.to.tile ((slot + length way.path) % platform.table_slots) ∷ []) (link_sides platform (slot + 1) Local way.path))

-- the claims of the entries are those of the channels, in their order
pub entry_sides : (platform : Platform) (bundle : Bundle) → map claim_of (bundle_entries platform bundle) ≡ flat_map (way_claims platform.table_slots) (ways_of bundle)
entry_sides platform bundle =
    map_flat claim_of (way_entries platform) (way_claims platform.table_slots) (ways_of bundle)
    (λ way. map_flat claim_of (slot_entries platform way) (slot_claims platform.table_slots way.from.tile way.to.tile way.path) way.slots (λ slot. slot_sides platform way slot))

-- where the claim of an entry stands among the resources
abbrev pub held_place : Bundle → ℕ → ℕ
held_place bundle k = length (flat_map part_resources bundle.parts) + k

pub entry_held : (platform : Platform) (bundle : Bundle) (k : ℕ) (p : Placed) → slice_get (bundle_entries platform bundle) k ≡ Some p → slice_get (resources_of platform bundle) (held_place bundle k) ≡ Some p.claim
entry_held platform bundle k p there =
    let claims = flat_map (way_claims platform.table_slots) (ways_of bundle) in
    let at : slice_get claims k ≡ Some p.claim =
    ap (λ list. slice_get list k) (sym (entry_sides platform bundle)) ∙ slice_get-map claim_of (bundle_entries platform bundle) k ∙ ap (option_map claim_of) there in
    ap (λ list. slice_get list (held_place bundle k)) (resources_by_way platform bundle)
    ∙ append_back (flat_map part_resources bundle.parts) claims k p.claim at

-- where an item of lists that are joined comes from
pub append_from : {X : Type 0} (xs ys : List X) (n : ℕ) (x : X) → slice_get (xs ++ ys) n ≡ Some x → ((j : ℕ) × (slice_get xs j ≡ Some x)) ⊎ ((j : ℕ) × (slice_get ys j ≡ Some x))
append_from [] ys n x at = inr (n, at)
append_from (z ∷ xs) ys zero x at = inl (0, at)
append_from (z ∷ xs) ys (suc n) x at = elim (append_from xs ys n x at) [
  | inl it ↦ inl (suc it.0, it.1)
  | inr it ↦ inr it
]

pub flat_from : {X Y : Type 0} (f : X → List Y) (xs : List X) (k : ℕ) (y : Y) → slice_get (flat_map f xs) k ≡ Some y → (i : ℕ) × (x : X) × (j : ℕ) × (slice_get xs i ≡ Some x) × (slice_get (f x) j ≡ Some y)
flat_from f [] k y there = absurd (none-some y there)
flat_from f (x ∷ xs) k y there = elim (append_from (f x) (flat_map f xs) k y there) [
  | inl at ↦ (0, x, at.0, refl, at.1)
  | inr at ↦ let rest = flat_from f xs at.0 y at.1 in (suc rest.0, rest.1, rest.2, rest.3, rest.4)
]

-- the entries of an injection slot of a channel: of the injection, of a link of the path, of the delivery
abbrev pub inject_placed : Platform → Way → ℕ → Placed
inject_placed platform way slot = record { tile = way.from.tile; claim = InjectSlot way.from.tile slot; entry = Inject slot way.from.port }

abbrev link_placed_at : Platform → ℕ → Source → ℕ → Placed
link_placed_at platform at source number = record {
  tile = (link_of platform number).from;
  claim = LinkSlot number (at % platform.table_slots);
  entry = Out (link_of platform number).out (at % platform.table_slots) source;
}

abbrev pub link_placed : Platform → Way → ℕ → ℕ → ℕ → Placed
link_placed platform way slot hop number = link_placed_at platform (slot + 1 + hop) (source_of platform way.path hop) number

abbrev pub deliver_placed : Platform → Way → ℕ → Placed
deliver_placed platform way slot = record {
  tile = way.to.tile;
  claim = DeliverSlot way.to.tile ((slot + length way.path) % platform.table_slots);
  entry = Deliver ((slot + length way.path) % platform.table_slots) (last_input platform way.path) way.to.port;
}

-- what the first link of a path takes its flit from, and the next ones
abbrev source_from : Platform → Source → List ℕ → ℕ → Source
source_from platform source path zero = source
source_from platform source path (suc hop) = Input (link_of platform (get_or path hop 0)).input

source_later : (platform : Platform) (first : ℕ) (source : Source) (path : List ℕ) (hop : ℕ) → source_from platform (Input (link_of platform first).input) path hop ≡ source_from platform source (first ∷ path) (suc hop)
source_later platform first source path zero = refl
source_later platform first source path (suc hop) = refl

source_is : (platform : Platform) (path : List ℕ) (hop : ℕ) → source_from platform Local path hop ≡ source_of platform path hop
source_is platform path zero = refl
source_is platform path (suc hop) = refl

at_later : (platform : Platform) (first at : ℕ) (source : Source) (path : List ℕ) (hop number : ℕ) → link_placed_at platform (at + 1 + hop) (source_from platform (Input (link_of platform first).input) path hop) number ≡ link_placed_at platform (at + suc hop) (source_from platform source (first ∷ path) (suc hop)) number
at_later platform first at source path hop number =
    let e : at + 1 + hop ≡ at + suc hop = omega arith in
    ap₂ (λ n s. link_placed_at platform n s number) e (source_later platform first source path hop)

at_first : (platform : Platform) (at : ℕ) (source : Source) (number : ℕ) → link_placed_at platform at source number ≡ link_placed_at platform (at + 0) source number
at_first platform at source number = let e : at ≡ at + 0 = omega arith in ap (λ n. link_placed_at platform n source number) e

link_at : (platform : Platform) (at : ℕ) (source : Source) (path : List ℕ) (hop number : ℕ) → slice_get path hop ≡ Some number → slice_get (link_entries platform at source path) hop ≡ Some (link_placed_at platform (at + hop) (source_from platform source path hop) number)
link_at platform at source [] hop number there = absurd (none-some number there)
link_at platform at source (first ∷ path) zero number there =
    ap (λ l. Some (link_placed_at platform at source l)) (same_Some first number there) ∙ ap (λ p. Some p) (at_first platform at source number)
link_at platform at source (first ∷ path) (suc hop) number there =
    link_at platform (at + 1) (Input (link_of platform first).input) path hop number there ∙ ap (λ p. Some p) (at_later platform first at source path hop number)

-- which entry of a path it is
link_from : (platform : Platform) (at : ℕ) (source : Source) (path : List ℕ) (j : ℕ) (p : Placed) → slice_get (link_entries platform at source path) j ≡ Some p → (number : ℕ) × (slice_get path j ≡ Some number) × (p ≡ link_placed_at platform (at + j) (source_from platform source path j) number)
link_from platform at source [] j p there = absurd (none-some p there)
link_from platform at source (first ∷ path) zero p there = (first, refl, sym (same_Some _ p there) ∙ at_first platform at source first)
link_from platform at source (first ∷ path) (suc j) p there =
    let rest = link_from platform (at + 1) (Input (link_of platform first).input) path j p there in
    (rest.0, rest.1, rest.2 ∙ at_later platform first at source path j rest.0)

length-link_entries : (platform : Platform) (at : ℕ) (source : Source) (path : List ℕ) → length (link_entries platform at source path) ≡ length path
length-link_entries platform at source [] = refl
length-link_entries platform at source (number ∷ path) = ap (λ n. suc n) (length-link_entries platform (at + 1) (Input (link_of platform number).input) path)

-- the entries of an injection slot, each by its place
pub slot_link : (platform : Platform) (way : Way) (slot hop number : ℕ) → slice_get way.path hop ≡ Some number → slice_get (slot_entries platform way slot) (suc hop) ≡ Some (link_placed platform way slot hop number)
slot_link platform way slot hop number there =
    append_front (link_entries platform (slot + 1) Local way.path) (deliver_placed platform way slot ∷ []) hop _
    (link_at platform (slot + 1) Local way.path hop number there ∙ ap (λ s. Some (link_placed_at platform (slot + 1 + hop) s number)) (source_is platform way.path hop))

pub slot_deliver : (platform : Platform) (way : Way) (slot : ℕ) → slice_get (slot_entries platform way slot) (suc (length way.path)) ≡ Some (deliver_placed platform way slot)
slot_deliver platform way slot =
    let links = link_entries platform (slot + 1) Local way.path in
    let e : length links + 0 ≡ length way.path = let l = length-link_entries platform (slot + 1) Local way.path in omega arith in
    subst (λ n. slice_get (links ++ deliver_placed platform way slot ∷ []) n ≡ Some (deliver_placed platform way slot)) e
    (append_back links (deliver_placed platform way slot ∷ []) 0 _ refl)

-- an entry of an injection slot is one of these
pub record IsPassing (platform : Platform) (way : Way) (slot : ℕ) (p : Placed) : Type 0 where
  pub hop : ℕ
  pub number : ℕ
  pub passed : slice_get way.path hop ≡ Some number
  pub placed_is : p ≡ link_placed platform way slot hop number

pub slot_from : (platform : Platform) (way : Way) (slot j : ℕ) (p : Placed) → slice_get (slot_entries platform way slot) j ≡ Some p
    → (p ≡ inject_placed platform way slot) ⊎ (IsPassing platform way slot p ⊎ (p ≡ deliver_placed platform way slot))
slot_from platform way slot zero p there = inl (sym (same_Some (inject_placed platform way slot) p there))
slot_from platform way slot (suc j) p there = elim (append_from (link_entries platform (slot + 1) Local way.path) (deliver_placed platform way slot ∷ []) j p there) [
  | inl at ↦
      let link = link_from platform (slot + 1) Local way.path at.0 p at.1 in
      inr (inl (record {
        hop = at.0;
        number = link.0;
        passed = link.1;
        placed_is = link.2 ∙ ap (λ s. link_placed_at platform (slot + 1 + at.0) s link.0) (source_is platform way.path at.0);
      }))
  | inr at ↦ inr (inr (last at.0 at.1))
]
  where
    last : (n : ℕ) → slice_get (deliver_placed platform way slot ∷ []) n ≡ Some p → p ≡ deliver_placed platform way slot
    last zero at = sym (same_Some (deliver_placed platform way slot) p at)
    last (suc n) at = absurd (none-some p at)

-- where an entry stands of a channel, an injection slot and a step among those of the slot
abbrev pub entry_place : Platform → Bundle → Way → ℕ → ℕ → ℕ → ℕ
entry_place platform bundle way number at step =
    offset (way_entries platform) (ways_of bundle) number + (offset (slot_entries platform way) way.slots at + step)

pub entry_there : (platform : Platform) (bundle : Bundle) (way : Way) (number at slot step : ℕ) (p : Placed) → slice_get (ways_of bundle) number ≡ Some way → slice_get way.slots at ≡ Some slot → slice_get (slot_entries platform way slot) step ≡ Some p → slice_get (bundle_entries platform bundle) (entry_place platform bundle way number at step) ≡ Some p
entry_there platform bundle way number at slot step p way_there slot_there there =
    flat_at (way_entries platform) (ways_of bundle) number (offset (slot_entries platform way) way.slots at + step) way p way_there
    (flat_at (slot_entries platform way) way.slots at step slot p slot_there there)
