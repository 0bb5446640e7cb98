-- Where the claims of a bundle stand among its resources.
use Rattle.std.proofs.Common.{◌≡◌, ℕ, zero, suc, ◌+◌, ◌%◌, List, [], ◌∷◌, ◌++◌, map, length, slice_get, Some, option_map, refl, ap, ◌∙◌, subst, append_assoc, arith}
use Rattle.std.specs.List.{flat_map}
use Rattle.std.proofs.lemmas.Option.{none-some, same_Some, slice_get-map}
use Rattle.platform_model.specs.declared.platform.Platform.{Platform}
use Rattle.bundle_model.specs.declared.bundle.Pair.{Pair}
use Rattle.bundle_model.specs.declared.bundle.Part.{Part}
use Rattle.bundle_model.specs.declared.bundle.Bundle.{Bundle}
use Rattle.bundle_model.specs.declared.resource.Resource.{Resource}
use Rattle.bundle_model.specs.declared.resource.Resource.TheVariants.{Partition, Span, Port, LinkSlot, Deliver}
use Rattle.soc_base.specs.Slots.{slots_of}
use Rattle.bundle_model.specs.Resources.{part_resources, link_claims, slot_claims, channel_claims, pair_resources, resources_of}
use Rattle.bundle_model.specs.Ways.{Way, pair_ways, ways_of}
use Rattle.bundle_model.proofs.Flat.{append_front, append_back, offset, flat_at}

-- what a channel claims
abbrev pub way_claims : ℕ → Way → List Resource
way_claims table way = flat_map (slot_claims table way.from.tile way.to.tile way.path) way.slots

by_way : (table : ℕ) (pairs : List Pair) → flat_map (pair_resources table) pairs ≡ flat_map (way_claims table) (flat_map pair_ways pairs)
by_way table [] = refl
by_way table (pair ∷ pairs) =
    ap (λ rest. pair_resources table pair ++ rest) (by_way table pairs)
    ∙ append_assoc (channel_claims table pair.a.tile pair.b.tile pair.there) (channel_claims table pair.b.tile pair.a.tile pair.back) (flat_map (way_claims table) (flat_map pair_ways pairs))

pub resources_by_way : (platform : Platform) (bundle : Bundle) → resources_of platform bundle ≡ flat_map part_resources bundle.parts ++ flat_map (way_claims platform.table_slots) (ways_of bundle)
resources_by_way platform bundle = ap (λ rest. flat_map part_resources bundle.parts ++ rest) (by_way platform.table_slots bundle.pairs)

length-link_claims : (table at : ℕ) (path : List ℕ) → length (link_claims table at path) ≡ length path
length-link_claims table at [] = refl
length-link_claims table at (link ∷ path) = ap (λ n. suc n) (length-link_claims table (at + 1) path)

link_claim : (table at : ℕ) (path : List ℕ) (hop link : ℕ) → slice_get path hop ≡ Some link → slice_get (link_claims table at path) hop ≡ Some (LinkSlot link ((at + hop) % table))
link_claim table at [] hop link there = absurd (none-some link there)
link_claim table at (first ∷ path) zero link there =
    let e : at ≡ at + 0 = omega arith in
    ap (λ l. Some (LinkSlot l (at % table))) (same_Some first link there) ∙ ap (λ n. Some (LinkSlot link (n % table))) e
link_claim table at (first ∷ path) (suc hop) link there =
    let e : at + 1 + hop ≡ at + suc hop = omega arith in
    link_claim table (at + 1) path hop link there ∙ ap (λ n. Some (LinkSlot link (n % table))) e

-- the claims of an injection slot: the injection first, then the links, then the delivery
pub passage_claim : (table from to slot hop link : ℕ) (path : List ℕ) → slice_get path hop ≡ Some link → slice_get (slot_claims table from to path slot) (suc hop) ≡ Some (LinkSlot link ((slot + 1 + hop) % table))
passage_claim table from to slot hop link path there =
    append_front (link_claims table (slot + 1) path) (Deliver to ((slot + length path) % table) ∷ []) hop _ (link_claim table (slot + 1) path hop link there)

pub arrival_claim : (table from to slot : ℕ) (path : List ℕ) → slice_get (slot_claims table from to path slot) (suc (length path)) ≡ Some (Deliver to ((slot + length path) % table))
arrival_claim table from to slot path =
    let e : length (link_claims table (slot + 1) path) + 0 ≡ length path = let l = length-link_claims table (slot + 1) path in omega arith in
    subst (λ n. slice_get (link_claims table (slot + 1) path ++ Deliver to ((slot + length path) % table) ∷ []) n ≡ Some (Deliver to ((slot + length path) % table))) e
    (append_back (link_claims table (slot + 1) path) (Deliver to ((slot + length path) % table) ∷ []) 0 _ refl)

-- where the claim stands of a channel, an injection slot and a step among those of the slot
abbrev pub claim_place : Platform → Bundle → Way → ℕ → ℕ → ℕ → ℕ
claim_place platform bundle way number at step =
    length (flat_map part_resources bundle.parts)
    + (offset (way_claims platform.table_slots) (ways_of bundle) number + (offset (slot_claims platform.table_slots way.from.tile way.to.tile way.path) way.slots at + step))

pub claim_held : (platform : Platform) (bundle : Bundle) (way : Way) (number at slot step : ℕ) (resource : Resource) → slice_get (ways_of bundle) number ≡ Some way → slice_get way.slots at ≡ Some slot → slice_get (slot_claims platform.table_slots way.from.tile way.to.tile way.path slot) step ≡ Some resource → slice_get (resources_of platform bundle) (claim_place platform bundle way number at step) ≡ Some resource
claim_held platform bundle way number at slot step resource way_there slot_there there =
    let table = platform.table_slots in
    let inner : slice_get (way_claims table way) (offset (slot_claims table way.from.tile way.to.tile way.path) way.slots at + step) ≡ Some resource =
    flat_at (slot_claims table way.from.tile way.to.tile way.path) way.slots at step slot resource slot_there there in
    let outer = flat_at (way_claims table) (ways_of bundle) number (offset (slot_claims table way.from.tile way.to.tile way.path) way.slots at + step) way resource way_there inner in
    ap (λ list. slice_get list (claim_place platform bundle way number at step)) (resources_by_way platform bundle)
    ∙ append_back (flat_map part_resources bundle.parts) (flat_map (way_claims table) (ways_of bundle)) _ resource outer

-- a port of a part is among the resources
pub port_held : (platform : Platform) (bundle : Bundle) (k j port : ℕ) (part : Part) → slice_get bundle.parts k ≡ Some part → slice_get part.ports j ≡ Some port → (place : ℕ) × (slice_get (resources_of platform bundle) place ≡ Some (Port part.tile port))
port_held platform bundle k j port part there at =
    let mapped : slice_get (map (Port part.tile) part.ports) j ≡ Some (Port part.tile port) = slice_get-map (Port part.tile) part.ports j ∙ ap (option_map (Port part.tile)) at in
    let inner = append_back (map (Partition part.tile) (slots_of part.slots)) (Span part.tile part.region.base part.region.len ∷ map (Port part.tile) part.ports) (suc j) (Port part.tile port) mapped in
    let outer = flat_at part_resources bundle.parts k _ part (Port part.tile port) there inner in
    (_, append_front (flat_map part_resources bundle.parts) (flat_map (pair_resources platform.table_slots) bundle.pairs) _ _ outer)
