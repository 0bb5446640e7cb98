-- Of a bundle that keeps the rules before, no resource stands twice where none of the network does.
use Rattle.std.proofs.Common.{◌≡◌, ◌≢◌, ℕ, zero, suc, ◌+◌, ◌*◌, ◌<◌, ◌≤◌, ◌%◌, ◌==◌, Bool, true, false, ◌||◌, ◌&&◌, cond, nat_eq, List, [], ◌∷◌, ◌++◌, map, filter, length, All, AllPairs, Option, Some, None, slice_get, refl, sym, ap, ap₂, ◌∙◌, inl, inr, arith}
use Rattle.std.specs.Prelude.{⊤}
use Rattle.std.specs.Int.{bit_at}
use Rattle.std.specs.List.{list_any, range_with_len, flat_map, AllByRecursion, IsDistinct}
use Rattle.std.specs.Option.{option_map_or}
use Rattle.std.proofs.Math.Nat.{mod-lt}
use Rattle.std.proofs.lemmas.Bool.{cases_eq, eq-eqb, ne_eqb, or_from, and_left}
use Rattle.std.proofs.lemmas.Bool.Decides.{Decides-eqb}
use Rattle.std.proofs.lemmas.List.Elements.{recursion_from_All}
use Rattle.std.proofs.lemmas.Map.Made.{IsDistinct-from_AllPairs}
use Rattle.std.proofs.lemmas.Option.{slice_get_within}
use Rattle.soc_base.specs.Slots.{slots_of}
use Rattle.soc_base.specs.Twins.{has_twin}
use Rattle.platform_model.specs.declared.link.Link.{Link}
use Rattle.platform_model.specs.declared.platform.Platform.{Platform}
use Rattle.bundle_model.specs.declared.bundle.Part.{Part}
use Rattle.bundle_model.specs.declared.bundle.Pair.{Pair}
use Rattle.bundle_model.specs.declared.bundle.Bundle.{Bundle}
use Rattle.bundle_model.specs.declared.resource.Resource.{Resource}
use Rattle.bundle_model.specs.declared.resource.Resource.TheVariants.{Partition, Span, Port, Inject, LinkSlot, Deliver}
use Rattle.bundle_model.specs.Resources.{part_resources, link_claims, slot_claims, channel_claims, pair_resources, resources_of, is_same}
use Rattle.bundle_model.specs.Ways.{Way, pair_ways, ways_of}
use Rattle.bundle_model.specs.WellFormed.{IsWellFormedPart, IsWellFormedWay}
use Rattle.bundle_model.specs.inner.Places.{network_place, is_at, shares_place}
use Rattle.bundle_model.specs.inner.Stages.{KeepsEarly}
use Rattle.bundle_model.proofs.Keyed.{at_place}
use Rattle.bundle_model.proofs.Twins.{all_append, all_flat, any_none, any_map, twins_same, twins_none, twins_append, twins_map, distinct_twinless}

-- a resource of a part on a tile
abbrev IsOf : ℕ → Resource → Type 0
IsOf tile (Partition at slot) = at ≡ tile
IsOf tile (Span at base len) = at ≡ tile
IsOf tile (Port at port) = at ≡ tile
IsOf tile (Inject at slot) = ⊥
IsOf tile (LinkSlot at slot) = ⊥
IsOf tile (Deliver at slot) = ⊥

-- a resource of some part
abbrev IsLocal : Resource → Type 0
IsLocal resource = (tile : ℕ) × IsOf tile resource

-- a resource of the network whose numbers are below 256
abbrev IsNear : Resource → Type 0
IsNear (Partition at slot) = ⊥
IsNear (Span at base len) = ⊥
IsNear (Port at port) = ⊥
IsNear (Inject at slot) = (at < 256) × (slot < 256)
IsNear (LinkSlot at slot) = (at < 256) × (slot < 256)
IsNear (Deliver at slot) = (at < 256) × (slot < 256)

-- two pairs of bytes are the same where their numbers are
same_bytes : (base a b c d : ℕ) → b < 256 → d < 256 → (a == c && b == d) ≡ (base + a * 256 + b == base + c * 256 + d)
same_bytes base a b c d low high = elim (cases_eq a c) [
  | inr other ↦ ap (λ t. t && (b == d)) (ne_eqb a c other) ∙ sym (ne_eqb (base + a * 256 + b) (base + c * 256 + d) (λ e. other (omega arith)))
  | inl same ↦ elim (cases_eq b d) [
    | inr other ↦ ap₂ (λ s t. s && t) (eq-eqb a c same) (ne_eqb b d other) ∙ sym (ne_eqb (base + a * 256 + b) (base + c * 256 + d) (λ e. other (omega arith)))
    | inl too ↦ ap₂ (λ s t. s && t) (eq-eqb a c same) (eq-eqb b d too) ∙ sym (eq-eqb (base + a * 256 + b) (base + c * 256 + d) (omega arith))
  ]
]

-- near resources are the same where their numbers are
same_near : (one other : Resource) → IsNear one → IsNear other → is_same one other ≡ shares_place one other
same_near (Partition a b) other near far = absurd near
same_near (Span a b e) other near far = absurd near
same_near (Port a b) other near far = absurd near
same_near (Inject a b) (Partition c d) near far = absurd far
same_near (Inject a b) (Span c d e) near far = absurd far
same_near (Inject a b) (Port c d) near far = absurd far
same_near (Inject a b) (Inject c d) near far =
    let one : 0 + a * 256 + b ≡ a * 256 + b = omega arith in
    let other : 0 + c * 256 + d ≡ c * 256 + d = omega arith in
    same_bytes 0 a b c d near.1 far.1 ∙ ap₂ (λ m n. m == n) one other
same_near (Inject a b) (LinkSlot c d) near far = sym (ne_eqb (a * 256 + b) (65536 + c * 256 + d) (λ e. let l = near in omega arith))
same_near (Inject a b) (Deliver c d) near far = sym (ne_eqb (a * 256 + b) (131072 + c * 256 + d) (λ e. let l = near in omega arith))
same_near (LinkSlot a b) (Partition c d) near far = absurd far
same_near (LinkSlot a b) (Span c d e) near far = absurd far
same_near (LinkSlot a b) (Port c d) near far = absurd far
same_near (LinkSlot a b) (Inject c d) near far = sym (ne_eqb (65536 + a * 256 + b) (c * 256 + d) (λ e. let l = far in omega arith))
same_near (LinkSlot a b) (LinkSlot c d) near far = same_bytes 65536 a b c d near.1 far.1
same_near (LinkSlot a b) (Deliver c d) near far = sym (ne_eqb (65536 + a * 256 + b) (131072 + c * 256 + d) (λ e. let l = near in omega arith))
same_near (Deliver a b) (Partition c d) near far = absurd far
same_near (Deliver a b) (Span c d e) near far = absurd far
same_near (Deliver a b) (Port c d) near far = absurd far
same_near (Deliver a b) (Inject c d) near far = sym (ne_eqb (131072 + a * 256 + b) (c * 256 + d) (λ e. let l = far in omega arith))
same_near (Deliver a b) (LinkSlot c d) near far = sym (ne_eqb (131072 + a * 256 + b) (65536 + c * 256 + d) (λ e. let l = far in omega arith))
same_near (Deliver a b) (Deliver c d) near far = same_bytes 131072 a b c d near.1 far.1

-- no resource of a part is one of the network
no_claim : (one other : Resource) → IsLocal one → IsNear other → is_same one other ≡ false
no_claim (Partition a b) (Inject c d) (tile, of) near = refl
no_claim (Partition a b) (LinkSlot c d) (tile, of) near = refl
no_claim (Partition a b) (Deliver c d) (tile, of) near = refl
no_claim (Span a b e) (Inject c d) (tile, of) near = refl
no_claim (Span a b e) (LinkSlot c d) (tile, of) near = refl
no_claim (Span a b e) (Deliver c d) (tile, of) near = refl
no_claim (Port a b) (Inject c d) (tile, of) near = refl
no_claim (Port a b) (LinkSlot c d) (tile, of) near = refl
no_claim (Port a b) (Deliver c d) (tile, of) near = refl
no_claim one (Partition c d) of near = absurd near
no_claim one (Span c d e) of near = absurd near
no_claim one (Port c d) of near = absurd near
no_claim (Inject a b) other (tile, of) near = absurd of
no_claim (LinkSlot a b) other (tile, of) near = absurd of
no_claim (Deliver a b) other (tile, of) near = absurd of

unplaced : (resource : Resource) → IsLocal resource → network_place resource ≡ None
unplaced (Partition a b) (tile, of) = refl
unplaced (Span a b e) (tile, of) = refl
unplaced (Port a b) (tile, of) = refl
unplaced (Inject a b) (tile, of) = absurd of
unplaced (LinkSlot a b) (tile, of) = absurd of
unplaced (Deliver a b) (tile, of) = absurd of

-- so none of them shares a place
shares_none : (one other : Resource) → IsLocal one → shares_place one other ≡ false
shares_none one other of = by_place (network_place other)
  where
    by_place : (place : Option ℕ) → option_map_or (λ p. is_at p one) place false ≡ false
    by_place None = refl
    by_place (Some p) = ap (λ o. option_map_or (λ q. q == p) o false) (unplaced one of)

-- resources of two tiles are not the same
unlike_tiles : (tile at : ℕ) (one other : Resource) → IsOf tile one → IsOf at other → nat_eq tile at ≡ false → is_same one other ≡ false
unlike_tiles tile at (Partition a b) (Partition c d) of too differ = and_left (a == c) (b == d) (ap₂ nat_eq of too ∙ differ)
unlike_tiles tile at (Partition a b) (Span c d e) of too differ = refl
unlike_tiles tile at (Partition a b) (Port c d) of too differ = refl
unlike_tiles tile at (Span a b e) (Partition c d) of too differ = refl
unlike_tiles tile at (Span a b e) (Span c d f) of too differ =
    ap (λ t. t && (e == f)) (and_left (a == c) (b == d) (ap₂ nat_eq of too ∙ differ))
unlike_tiles tile at (Span a b e) (Port c d) of too differ = refl
unlike_tiles tile at (Port a b) (Partition c d) of too differ = refl
unlike_tiles tile at (Port a b) (Span c d e) of too differ = refl
unlike_tiles tile at (Port a b) (Port c d) of too differ = and_left (a == c) (b == d) (ap₂ nat_eq of too ∙ differ)
unlike_tiles tile at (Inject a b) other of too differ = absurd of
unlike_tiles tile at (LinkSlot a b) other of too differ = absurd of
unlike_tiles tile at (Deliver a b) other of too differ = absurd of
unlike_tiles tile at one (Inject c d) of too differ = absurd too
unlike_tiles tile at one (LinkSlot c d) of too differ = absurd too
unlike_tiles tile at one (Deliver c d) of too differ = absurd too

-- what a part holds is of its tile
ports_of : (tile : ℕ) (ports : List ℕ) → AllByRecursion (IsOf tile) (map (Port tile) ports)
ports_of tile [] = tt
ports_of tile (port ∷ ports) = (refl, ports_of tile ports)

slots_held : (tile : ℕ) (slots : List ℕ) → AllByRecursion (IsOf tile) (map (Partition tile) slots)
slots_held tile [] = tt
slots_held tile (slot ∷ slots) = (refl, slots_held tile slots)

part_of : (part : Part) → AllByRecursion (IsOf part.tile) (part_resources part)
part_of part =
    all_append (IsOf part.tile) (map (Partition part.tile) (slots_of part.slots)) (Span part.tile part.region.base part.region.len ∷ map (Port part.tile) part.ports)
    (slots_held part.tile (slots_of part.slots)) (refl, ports_of part.tile part.ports)

-- the slots of a set differ
range_above : (test : ℕ → Bool) (low from count : ℕ) → low < from → AllByRecursion (λ k. nat_eq low k ≡ false) (filter test (range_with_len from count))
range_above test low from zero below = tt
range_above test low from (suc count) below =
    let rest = range_above test low (from + 1) count (omega arith) in
    elim (test from) as (λ here. AllByRecursion (λ k. nat_eq low k ≡ false) (cond here (from ∷ filter test (range_with_len (from + 1) count)) (filter test (range_with_len (from + 1) count)))) [
      | true ↦ (ne_eqb low from (λ e. omega arith), rest)
      | false ↦ rest
    ]

range_twinless : (test : ℕ → Bool) (from count : ℕ) → has_twin nat_eq (filter test (range_with_len from count)) ≡ false
range_twinless test from zero = refl
range_twinless test from (suc count) =
    let rest = range_twinless test (from + 1) count in
    let above = range_above test from (from + 1) count (omega arith) in
    elim (test from) as (λ here. has_twin nat_eq (cond here (from ∷ filter test (range_with_len (from + 1) count)) (filter test (range_with_len (from + 1) count))) ≡ false) [
      | true ↦ or_from (list_any (nat_eq from) (filter test (range_with_len (from + 1) count))) (has_twin nat_eq (filter test (range_with_len (from + 1) count)))
          (any_none (λ k. nat_eq from k ≡ false) (nat_eq from) (filter test (range_with_len (from + 1) count)) (λ k fails. fails) above) rest
      | false ↦ rest
    ]

slots_twinless : (set : ℕ) → has_twin nat_eq (slots_of set) ≡ false
unfolding slots_of
slots_twinless set = range_twinless (λ slot. bit_at set slot == 1) 0 16

-- the resources of a part differ
same_tile : (tile : ℕ) (b : Bool) → (tile == tile && b) ≡ b
same_tile tile b = ap (λ t. t && b) (eq-eqb tile tile refl)

each_number : (ns : List ℕ) → AllByRecursion (λ n. ⊤) ns
each_number [] = tt
each_number (n ∷ ns) = (tt, each_number ns)

tile_twins : (on : ℕ → ℕ → Resource) (tile : ℕ) (numbers : List ℕ) → ((a b : ℕ) → is_same (on tile a) (on tile b) ≡ nat_eq a b) → has_twin is_same (map (on tile) numbers) ≡ has_twin nat_eq numbers
tile_twins on tile numbers same =
    twins_map (on tile) is_same numbers ∙ twins_same (λ n. ⊤) (λ a b. is_same (on tile a) (on tile b)) nat_eq numbers (λ a b any too. same a b) (each_number numbers)

none_of_ports : (test : Resource → Bool) (tile : ℕ) (ports : List ℕ) → ((port : ℕ) → test (Port tile port) ≡ false) → list_any test (map (Port tile) ports) ≡ false
none_of_ports test tile ports none = any_map (Port tile) test ports ∙ any_none (λ n. ⊤) (λ port. test (Port tile port)) ports (λ port any. none port) (each_number ports)

-- a partition slot, and what else a part holds
abbrev IsSlot : Resource → Type 0
IsSlot resource = (tile : ℕ) × (slot : ℕ) × (resource ≡ Partition tile slot)

abbrev IsRest : Resource → Type 0
IsRest resource = (tile slot : ℕ) → is_same (Partition tile slot) resource ≡ false

are_slots : (tile : ℕ) (slots : List ℕ) → AllByRecursion IsSlot (map (Partition tile) slots)
are_slots tile [] = tt
are_slots tile (slot ∷ slots) = ((tile, slot, refl), are_slots tile slots)

are_rest : (tile : ℕ) (ports : List ℕ) → AllByRecursion IsRest (map (Port tile) ports)
are_rest tile [] = tt
are_rest tile (port ∷ ports) = ((λ at slot. refl), are_rest tile ports)

part_twinless : (part : Part) → AllPairs (λ one other. one ≢ other) part.ports → has_twin is_same (part_resources part) ≡ false
part_twinless part differ =
    let tile = part.tile in
    let span = Span tile part.region.base part.region.len in
    let slots : has_twin is_same (map (Partition tile) (slots_of part.slots)) ≡ false =
    tile_twins (λ t s. Partition t s) tile (slots_of part.slots) (λ a b. same_tile tile (a == b)) ∙ slots_twinless part.slots in
    let ports : has_twin is_same (map (Port tile) part.ports) ≡ false =
    tile_twins (λ t p. Port t p) tile part.ports (λ a b. same_tile tile (a == b))
    ∙ distinct_twinless nat_eq part.ports (IsDistinct-from_AllPairs Decides-eqb part.ports differ) in
    let rest : has_twin is_same (span ∷ map (Port tile) part.ports) ≡ false =
    or_from (list_any (is_same span) (map (Port tile) part.ports)) (has_twin is_same (map (Port tile) part.ports)) (none_of_ports (is_same span) tile part.ports (λ port. refl)) ports in
    twins_append IsSlot IsRest is_same (map (Partition tile) (slots_of part.slots)) (span ∷ map (Port tile) part.ports)
    (λ x y slot other. ap (λ r. is_same r y) slot.2 ∙ other slot.0 slot.1)
    (are_slots tile (slots_of part.slots)) ((λ at slot. refl), are_rest tile part.ports)
    ∙ or_from (has_twin is_same (map (Partition tile) (slots_of part.slots))) (has_twin is_same (span ∷ map (Port tile) part.ports)) slots rest

-- the resources of parts on different tiles differ
abbrev IsElsewhere : ℕ → Resource → Type 0
IsElsewhere tile resource = (at : ℕ) × IsOf at resource × (nat_eq tile at ≡ false)

elsewhere : (tile at : ℕ) (resources : List Resource) → nat_eq tile at ≡ false → AllByRecursion (IsOf at) resources → AllByRecursion (IsElsewhere tile) resources
elsewhere tile at [] differ all = tt
elsewhere tile at (resource ∷ resources) differ (here, rest) = ((at, here, differ), elsewhere tile at resources differ rest)

parts_elsewhere : (tile : ℕ) (parts : List Part) → AllByRecursion (λ at. nat_eq tile at ≡ false) (map (λ p. p.tile) parts) → AllByRecursion (IsElsewhere tile) (flat_map part_resources parts)
parts_elsewhere tile [] differ = tt
parts_elsewhere tile (part ∷ parts) (here, rest) =
    all_append (IsElsewhere tile) (part_resources part) (flat_map part_resources parts) (elsewhere tile part.tile (part_resources part) here (part_of part)) (parts_elsewhere tile parts rest)

parts_twinless : (platform : Platform) (parts : List Part) → AllByRecursion (IsWellFormedPart platform) parts → IsDistinct nat_eq (map (λ p. p.tile) parts) → has_twin is_same (flat_map part_resources parts) ≡ false
unfolding IsDistinct
parts_twinless platform [] each apart = refl
parts_twinless platform (part ∷ parts) (here, rest) apart =
    twins_append (IsOf part.tile) (IsElsewhere part.tile) is_same (part_resources part) (flat_map part_resources parts)
    (λ x y of other. unlike_tiles part.tile other.0 x y of other.1 other.2)
    (part_of part) (parts_elsewhere part.tile parts apart.0)
    ∙ or_from (has_twin is_same (part_resources part)) (has_twin is_same (flat_map part_resources parts)) (part_twinless part here.ports_differ) (parts_twinless platform parts rest apart.1)

local_of : (tile : ℕ) (resources : List Resource) → AllByRecursion (IsOf tile) resources → AllByRecursion IsLocal resources
local_of tile [] all = tt
local_of tile (resource ∷ resources) (here, rest) = ((tile, here), local_of tile resources rest)

all_local : (parts : List Part) → AllByRecursion IsLocal (flat_map part_resources parts)
all_local [] = tt
all_local (part ∷ parts) = all_append IsLocal (part_resources part) (flat_map part_resources parts) (local_of part.tile (part_resources part) (part_of part)) (all_local parts)

-- what a channel claims is near
links_near : (table at : ℕ) (path : List ℕ) → 0 < table → table ≤ 64 → AllByRecursion (λ link. link < 256) path → AllByRecursion IsNear (link_claims table at path)
links_near table at [] some few all = tt
links_near table at (link ∷ path) some few (here, rest) =
    let low : at % table < table = mod-lt at some in
    ((here, omega arith), links_near table (at + 1) path some few rest)

slot_near : (table from to slot : ℕ) (path : List ℕ) → 0 < table → table ≤ 64 → from < 256 → to < 256 → slot < 256 → AllByRecursion (λ link. link < 256) path → AllByRecursion IsNear (slot_claims table from to path slot)
slot_near table from to slot path some few source target low all =
    let last : (slot + length path) % table < table = mod-lt (slot + length path) some in
    ((source, low), all_append IsNear (link_claims table (slot + 1) path) (Deliver to ((slot + length path) % table) ∷ []) (links_near table (slot + 1) path some few all) ((target, omega arith), tt))

-- what is true of the numbers of a channel
record IsNearWay (way : Way) : Type 0 where
  from : way.from.tile < 256
  to : way.to.tile < 256
  path : AllByRecursion (λ link. link < 256) way.path
  slots : AllByRecursion (λ slot. slot < 256) way.slots

way_near : (table : ℕ) (way : Way) → 0 < table → table ≤ 64 → IsNearWay way → AllByRecursion IsNear (flat_map (slot_claims table way.from.tile way.to.tile way.path) way.slots)
way_near table way some few near =
    all_flat (λ slot. slot < 256) IsNear (slot_claims table way.from.tile way.to.tile way.path) way.slots (λ slot low. slot_near table way.from.tile way.to.tile slot way.path some few near.from near.to low near.path) near.slots

pairs_near : (table : ℕ) (pairs : List Pair) → 0 < table → table ≤ 64 → AllByRecursion IsNearWay (flat_map pair_ways pairs) → AllByRecursion IsNear (flat_map (pair_resources table) pairs)
pairs_near table [] some few all = tt
pairs_near table (pair ∷ pairs) some few (there, (back, rest)) =
    all_append IsNear (pair_resources table pair) (flat_map (pair_resources table) pairs)
    (all_append IsNear (channel_claims table pair.a.tile pair.b.tile pair.there) (channel_claims table pair.b.tile pair.a.tile pair.back) (way_near table _ some few there) (way_near table _ some few back))
    (pairs_near table pairs some few rest)

-- the numbers of a bundle's channels are below 256
below_all : (low high : ℕ) (ns : List ℕ) → low ≤ high → AllByRecursion (λ n. n < low) ns → AllByRecursion (λ n. n < high) ns
below_all low high [] fits all = tt
below_all low high (n ∷ ns) fits (here, rest) = (omega arith, below_all low high ns fits rest)

links_below : (platform : Platform) (path : List ℕ) → ((k number : ℕ) → slice_get path k ≡ Some number → (link : Link) × (slice_get platform.links number ≡ Some link)) → AllByRecursion (λ link. link < 256) path
links_below platform [] linked = tt
links_below platform (number ∷ path) linked =
    let link = linked 0 number refl in
    let inside = slice_get_within platform.links number link.0 link.1 in
    let few = platform.links_in_range in
    (omega arith, links_below platform path (λ k other at. linked (suc k) other at))

held_near : (platform : Platform) (bundle : Bundle) → All (IsWellFormedPart platform) bundle.parts → (tile : ℕ) (place : ℕ) (part : Part) → slice_get bundle.parts place ≡ Some part → part.tile ≡ tile → tile < 256
held_near platform bundle parts tile place part there is =
    let on = (at_place (IsWellFormedPart platform) bundle.parts place part parts there).on_tile in
    let few = platform.tiles_in_range.1 in
    omega arith

near_way : (platform : Platform) (bundle : Bundle) (way : Way) → All (IsWellFormedPart platform) bundle.parts → IsWellFormedWay platform bundle way → IsNearWay way
near_way platform bundle way parts formed = record {
  from = held_near platform bundle parts way.from.tile formed.source.place formed.source.part formed.source.there formed.source.tile;
  to = held_near platform bundle parts way.to.tile formed.target.place formed.target.part formed.target.there formed.target.tile;
  path = links_below platform way.path formed.path.linked;
  slots = below_all platform.table_slots 256 way.slots (let few = platform.table_slots_in_range.1 in omega arith) (recursion_from_All (λ slot. slot < platform.table_slots) way.slots formed.slots);
}

near_ways : (platform : Platform) (bundle : Bundle) (ways : List Way) → All (IsWellFormedPart platform) bundle.parts → AllByRecursion (IsWellFormedWay platform bundle) ways → AllByRecursion IsNearWay ways
near_ways platform bundle [] parts all = tt
near_ways platform bundle (way ∷ ways) parts (here, rest) = (near_way platform bundle way parts here, near_ways platform bundle ways parts rest)

-- in a bundle that keeps the rules before, a resource stands twice where one of the network does
pub twins_claimed : (platform : Platform) (bundle : Bundle) → KeepsEarly platform bundle → has_twin shares_place (resources_of platform bundle) ≡ has_twin is_same (resources_of platform bundle)
twins_claimed platform bundle laid =
    let local = flat_map part_resources bundle.parts in
    let claims = flat_map (pair_resources platform.table_slots) bundle.pairs in
    let near : AllByRecursion IsNear claims =
    pairs_near platform.table_slots bundle.pairs platform.table_slots_in_range.0 platform.table_slots_in_range.1
    (near_ways platform bundle (ways_of bundle) laid.parts (recursion_from_All (IsWellFormedWay platform bundle) (ways_of bundle) laid.ways)) in
    let parted : has_twin is_same local ≡ false = parts_twinless platform bundle.parts (recursion_from_All (IsWellFormedPart platform) bundle.parts laid.parts) laid.apart in
    let unshared : has_twin shares_place local ≡ false = twins_none IsLocal shares_place local (λ x y of too. shares_none x y of) (all_local bundle.parts) in
    let one : has_twin shares_place (local ++ claims) ≡ has_twin shares_place claims =
    twins_append IsLocal IsNear shares_place local claims (λ x y of near. shares_none x y of) (all_local bundle.parts) near ∙ ap (λ b. b || has_twin shares_place claims) unshared in
    let other : has_twin is_same (local ++ claims) ≡ has_twin is_same claims =
    twins_append IsLocal IsNear is_same local claims no_claim (all_local bundle.parts) near ∙ ap (λ b. b || has_twin is_same claims) parted in
    one ∙ sym (twins_same IsNear is_same shares_place claims same_near near) ∙ sym other
