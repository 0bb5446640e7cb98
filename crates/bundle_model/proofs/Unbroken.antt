-- A bundle whose raw values break no rule is well-formed.
use Rattle.std.proofs.Common.{◌≡◌, ◌≢◌, ℕ, ℤ, pos, ◌<◌, ◌≤◌, Bool, true, false, not, ◌&&◌, ◌||◌, List, [], ◌∷◌, map, length, nat_lt, ◌==◌, cond, Some, None, refl, sym, ap, ◌∙◌, arith}
use Rattle.std.specs.Prelude.{nat_abs}
use Rattle.std.specs.List.{list_all, find, flat_map, AllByRecursion}
use Rattle.std.proofs.lemmas.Bool.{and_parts, and_from, both_ways, not-false, ltb-false, eq-eqb}
use Rattle.std.proofs.lemmas.List.Elements.{All-from_recursion}
use Rattle.platform_model.specs.Limits.{is_within}
use Rattle.soc_base.specs.Twins.{has_twin}
use Rattle.soc_base.specs.declared.limits.TheConstants.{MOST_RESOURCES}
use Rattle.platform_model.specs.declared.platform.Platform.{Platform}
use Rattle.platform_model.proofs.Laws.{passed_over, neither}
use Rattle.bundle_model.specs.Rules.{is_empty, has_tile, shares_tile, ascends, has_slots, has_region, has_image, has_entry, has_trace, has_ports, joins_parts, is_paired, fits_together, end_tile, is_path, is_table_slot, is_channel, has_channels, breaks}
use Rattle.bundle_model.specs.Bundle.{part_of, end_of, channel_of, pair_of, bundle_of}
use Rattle.bundle_model.specs.Resources.{resources_of, is_same}
use Rattle.bundle_model.specs.Ways.{pair_ways, way_of, ways_of}
use Rattle.bundle_model.specs.WellFormed.{IsPath, IsWellFormedWay, IsWellFormed}
use Rattle.bundle_model.specs.inner.Bytes.{are_bytes, is_of_bytes, are_of_bytes}
use Rattle.bundle_model.specs.inner.Stages.{KeepsEarly, breaks_early, first_early, first_late}
use Rattle.bundle_model.specs.declared.resource.Resource.{Resource}
use Rattle.bundle_model.specs.declared.resource.Resource.TheVariants.{Partition, Span, Port, Inject, LinkSlot, Deliver}
use Rattle.bundle_model.specs.declared.bundle.Bundle.{Bundle}
use Rattle.bundle_model.specs.declared.raw.RawChannel.{RawChannel}
use Rattle.bundle_model.specs.declared.raw.RawPair.{RawPair}
use Rattle.bundle_model.specs.declared.raw.RawPart.{RawPart}
use Rattle.bundle_model.specs.declared.raw.RawBundle.{RawBundle}
use Rattle.bundle_model.specs.declared.rules.BRule.{BRule}
use Rattle.bundle_model.specs.declared.rules.BRule.TheVariants.{B4, B5, B6, B7, B8, B9, B10, B11, B12, B13, B14}
use Rattle.bundle_model.proofs.Twins.{unlike_pairs}
use Rattle.bundle_model.proofs.Raws.{IsBelow, all_below, means_below, is_byte, bytes}
use Rattle.bundle_model.proofs.Parts.{some_there, parts_kept, stand_apart}
use Rattle.bundle_model.proofs.Paths.{path_so}
use Rattle.bundle_model.proofs.Ends.{IsHeldRaw, held_end, IsJoined, all_joined, once, ways_differ, paired_so}

-- no rule up to B12 is broken
pub record Unbroken (platform : Platform) (raw : RawBundle) : Type 0 where
  pub b5 : breaks B5 platform raw ≡ false
  pub b6 : breaks B6 platform raw ≡ false
  pub b7 : breaks B7 platform raw ≡ false
  pub b8 : breaks B8 platform raw ≡ false
  pub b9 : breaks B9 platform raw ≡ false
  pub b10 : breaks B10 platform raw ≡ false
  pub b11 : breaks B11 platform raw ≡ false
  pub b12 : breaks B12 platform raw ≡ false

pub unbroken : (platform : Platform) (raw : RawBundle) → first_early platform raw ≡ None → Unbroken platform raw
unbroken platform raw none =
    let test : BRule → Bool = λ rule. breaks_early rule platform raw in
    let four = passed_over (breaks B4 platform raw) B4 (find test (B5 ∷ B6 ∷ B7 ∷ B8 ∷ B9 ∷ B10 ∷ B11 ∷ B12 ∷ [])) none in
    let five = passed_over (breaks B5 platform raw) B5 (find test (B6 ∷ B7 ∷ B8 ∷ B9 ∷ B10 ∷ B11 ∷ B12 ∷ [])) four.1 in
    let six = passed_over (breaks B6 platform raw) B6 (find test (B7 ∷ B8 ∷ B9 ∷ B10 ∷ B11 ∷ B12 ∷ [])) five.1 in
    let seven = passed_over (breaks B7 platform raw) B7 (find test (B8 ∷ B9 ∷ B10 ∷ B11 ∷ B12 ∷ [])) six.1 in
    let eight = passed_over (breaks B8 platform raw) B8 (find test (B9 ∷ B10 ∷ B11 ∷ B12 ∷ [])) seven.1 in
    let nine = passed_over (breaks B9 platform raw) B9 (find test (B10 ∷ B11 ∷ B12 ∷ [])) eight.1 in
    let ten = passed_over (breaks B10 platform raw) B10 (find test (B11 ∷ B12 ∷ [])) nine.1 in
    let eleven = passed_over (breaks B11 platform raw) B11 (find test (B12 ∷ [])) ten.1 in
    let twelve = passed_over (breaks B12 platform raw) B12 None eleven.1 in
    record { b5 = five.0; b6 = six.0; b7 = seven.0; b8 = eight.0; b9 = nine.0; b10 = ten.0; b11 = eleven.0; b12 = twelve.0 }

-- what the rule of ports and pairs says
record Fitting (platform : Platform) (raw : RawBundle) : Type 0 where
  ports : list_all (has_ports platform) raw.parts ≡ true
  joined : list_all (joins_parts raw.parts) raw.pairs ≡ true
  paired : list_all (is_paired raw.pairs) raw.parts ≡ true

fitting : (platform : Platform) (raw : RawBundle) → breaks B11 platform raw ≡ false → Fitting platform raw
fitting platform raw kept =
    let fits = not-false (fits_together platform raw) kept in
    let two = and_parts (list_all (has_ports platform) raw.parts && list_all (joins_parts raw.parts) raw.pairs) (list_all (is_paired raw.pairs) raw.parts) fits in
    let one = and_parts (list_all (has_ports platform) raw.parts) (list_all (joins_parts raw.parts) raw.pairs) two.0 in
    record { ports = one.0; joined = one.1; paired = two.1 }

-- the channels of raw pairs are well-formed
slots_so : (platform : Platform) (slots : List ℤ) → (not (is_empty slots)) ≡ true → list_all (is_table_slot platform) slots ≡ true → (map nat_abs slots ≢ []) × AllByRecursion (IsBelow platform.table_slots) slots
slots_so platform [] some all = cc
slots_so platform (slot ∷ slots) some all = ((λ e. cc), all_below platform.table_slots (slot ∷ slots) all)

-- what the rules say of one channel
record KeptChannel (platform : Platform) (from to : ℕ) (channel : RawChannel) : Type 0 where
  path : IsPath platform from to (map nat_abs channel.path)
  links : AllByRecursion (IsBelow (length platform.links)) channel.path
  some_slot : map nat_abs channel.slots ≢ []
  slots : AllByRecursion (IsBelow platform.table_slots) channel.slots

channel_kept : (platform : Platform) (from to : ℕ) (channel : RawChannel) → is_channel platform from to channel ≡ true → KeptChannel platform from to channel
channel_kept platform from to channel kept =
    let three = and_parts (is_path platform from to channel.path && not (is_empty channel.slots) && list_all (is_table_slot platform) channel.slots) (ascends channel.slots) kept in
    let two = and_parts (is_path platform from to channel.path && not (is_empty channel.slots)) (list_all (is_table_slot platform) channel.slots) three.0 in
    let one = and_parts (is_path platform from to channel.path) (not (is_empty channel.slots)) two.0 in
    let path = path_so platform from to channel.path one.0 in
    let slots = slots_so platform channel.slots one.1 two.1 in
    record { path = path.0; links = path.1; some_slot = slots.0; slots = slots.1 }

-- what the rules say of one pair
record KeptPair (platform : Platform) (pair : RawPair) : Type 0 where
  there : KeptChannel platform (nat_abs (end_tile pair.a)) (nat_abs (end_tile pair.b)) pair.there
  back : KeptChannel platform (nat_abs (end_tile pair.b)) (nat_abs (end_tile pair.a)) pair.back

pair_kept : (platform : Platform) (pair : RawPair) → has_channels platform pair ≡ true → KeptPair platform pair
pair_kept platform pair kept =
    let a = nat_abs (end_tile pair.a) in
    let b = nat_abs (end_tile pair.b) in
    let both = and_parts (is_channel platform a b pair.there) (is_channel platform b a pair.back) kept in
    record { there = channel_kept platform a b pair.there both.0; back = channel_kept platform b a pair.back both.1 }

way_kept : (platform : Platform) (raw : RawBundle) (from to : List ℤ) (channel : RawChannel) → KeptChannel platform (nat_abs (end_tile from)) (nat_abs (end_tile to)) channel → IsHeldRaw platform raw.parts from → IsHeldRaw platform raw.parts to → (end_of from).tile ≢ (end_of to).tile → IsWellFormedWay platform (bundle_of raw) (way_of (end_of from) (end_of to) (channel_of channel))
way_kept platform raw from to channel kept source target apart = record {
  path = kept.path;
  some_slot = kept.some_slot;
  slots = All-from_recursion (λ slot. slot < platform.table_slots) (map nat_abs channel.slots) (means_below platform.table_slots channel.slots kept.slots);
  source = held_end platform raw from source;
  target = held_end platform raw to target;
  elsewhere = apart;
}

ways_kept : (platform : Platform) (raw : RawBundle) (pairs : List RawPair) → AllByRecursion (IsJoined platform raw.parts) pairs → list_all (has_channels platform) pairs ≡ true → AllByRecursion (IsWellFormedWay platform (bundle_of raw)) (flat_map pair_ways (map pair_of pairs))
ways_kept platform raw [] joined kept = tt
ways_kept platform raw (pair ∷ pairs) (here, rest) kept =
    let both = and_parts (has_channels platform pair) (list_all (has_channels platform) pairs) kept in
    let channels = pair_kept platform pair both.0 in (
      way_kept platform raw pair.a pair.b pair.there channels.there here.a here.b here.apart,
      (
        way_kept platform raw pair.b pair.a pair.back channels.back here.b here.a (λ same. here.apart (sym same)),
        ways_kept platform raw pairs rest both.1,
      ),
    )

-- raw values that break no rule up to B12 mean a bundle that is laid out
pub keeps_early : (platform : Platform) (raw : RawBundle) → first_early platform raw ≡ None → KeepsEarly platform (bundle_of raw)
keeps_early platform raw none =
    let u = unbroken platform raw none in
    let five = neither (is_empty raw.parts || not (list_all (has_tile platform) raw.parts)) (has_twin shares_tile raw.parts) u.b5 in
    let there = neither (is_empty raw.parts) (not (list_all (has_tile platform) raw.parts)) five.0 in
    let tiles = not-false (list_all (has_tile platform) raw.parts) there.1 in
    let fits = fitting platform raw u.b11 in
    let joined = all_joined platform raw.parts raw.pairs (record { tiles = tiles; ports = fits.ports }) fits.joined in
    let few = once platform raw.parts raw.pairs fits.paired in
    let differ = ways_differ platform raw.parts raw.pairs joined few in
    record {
      some_part = some_there part_of raw.parts there.0;
      parts = parts_kept platform raw.parts tiles (not-false (list_all (has_slots platform) raw.parts) u.b6)
          (not-false (list_all (has_region platform) raw.parts) u.b7) (not-false (list_all has_image raw.parts) u.b8)
          (not-false (list_all has_entry raw.parts) u.b9) (not-false (list_all has_trace raw.parts) u.b10) fits.ports;
      apart = stand_apart platform raw.parts tiles five.1;
      ways = All-from_recursion (IsWellFormedWay platform (bundle_of raw)) (ways_of (bundle_of raw)) (ways_kept platform raw raw.pairs joined (not-false (list_all (has_channels platform) raw.pairs) u.b12));
      sources = λ i j x before inside. (differ i j x before inside).0;
      targets = λ i j x before inside. (differ i j x before inside).1;
      paired = paired_so raw fits.paired;
    }

-- a bundle that is laid out and breaks neither B13 nor B14 is well-formed
same_itself : (resource : Resource) → is_same resource resource ≡ true
same_itself (Partition a b) = and_from (a == a) (b == b) (eq-eqb a a refl) (eq-eqb b b refl)
same_itself (Span a b e) = and_from (a == a && b == b) (e == e) (and_from (a == a) (b == b) (eq-eqb a a refl) (eq-eqb b b refl)) (eq-eqb e e refl)
same_itself (Port a b) = and_from (a == a) (b == b) (eq-eqb a a refl) (eq-eqb b b refl)
same_itself (Inject a b) = and_from (a == a) (b == b) (eq-eqb a a refl) (eq-eqb b b refl)
same_itself (LinkSlot a b) = and_from (a == a) (b == b) (eq-eqb a a refl) (eq-eqb b b refl)
same_itself (Deliver a b) = and_from (a == a) (b == b) (eq-eqb a a refl) (eq-eqb b b refl)

late_none : (list : List Resource) → first_late list ≡ None → (has_twin is_same list ≡ false) × (length list ≤ MOST_RESOURCES)
late_none list none =
    let twins = passed_over (has_twin is_same list) B13 (cond (nat_lt MOST_RESOURCES (length list)) (Some B14) None) none in
    let many = passed_over (nat_lt MOST_RESOURCES (length list)) B14 None twins.1 in
    (twins.0, ltb-false MOST_RESOURCES (length list) many.0)

pub well_formed : (platform : Platform) (bundle : Bundle) → KeepsEarly platform bundle → first_late (resources_of platform bundle) ≡ None → IsWellFormed platform bundle
well_formed platform bundle laid none =
    let late = late_none (resources_of platform bundle) none in
    record {
      some_part = laid.some_part;
      parts = laid.parts;
      apart = laid.apart;
      ways = laid.ways;
      sources = laid.sources;
      targets = laid.targets;
      paired = laid.paired;
      distinct = unlike_pairs (λ one other. one ≢ other) is_same (resources_of platform bundle) (λ one other unlike same. both_ways (is_same one other) unlike (ap (is_same one) (sym same) ∙ same_itself one)) late.0;
      few = late.1;
    }

-- the numbers of the pairs fit in bytes
end_bytes : (platform : Platform) (parts : List RawPart) (end : List ℤ) → IsHeldRaw platform parts end → are_bytes end ≡ true
end_bytes platform parts end held =
    let tiles = platform.tiles_in_range.1 in
    let ports = platform.ports_in_range in
    let tile = is_byte held.part.tile platform.tiles (omega arith) held.tile_below in
    let port = is_byte held.port platform.ports (omega arith) held.port_below in
    ap are_bytes held.is ∙ and_from (is_within held.part.tile (pos 0) (pos 255)) (are_bytes (held.port ∷ [])) tile (and_from (is_within held.port (pos 0) (pos 255)) true port refl)

channel_bytes : (platform : Platform) (from to : ℕ) (channel : RawChannel) → KeptChannel platform from to channel → is_of_bytes channel ≡ true
channel_bytes platform from to channel kept =
    let links = platform.links_in_range in
    let slots = platform.table_slots_in_range.1 in
    and_from (are_bytes channel.path) (are_bytes channel.slots) (bytes (length platform.links) channel.path (omega arith) kept.links) (bytes platform.table_slots channel.slots (omega arith) kept.slots)

pair_bytes : (platform : Platform) (parts : List RawPart) (pair : RawPair) → IsJoined platform parts pair → KeptPair platform pair → are_of_bytes pair ≡ true
pair_bytes platform parts pair joined kept =
    let ends = and_from (are_bytes pair.a) (are_bytes pair.b) (end_bytes platform parts pair.a joined.a) (end_bytes platform parts pair.b joined.b) in
    let there = and_from (are_bytes pair.a && are_bytes pair.b) (is_of_bytes pair.there) ends (channel_bytes platform _ _ pair.there kept.there) in
    and_from (are_bytes pair.a && are_bytes pair.b && is_of_bytes pair.there) (is_of_bytes pair.back) there (channel_bytes platform _ _ pair.back kept.back)

pairs_bytes : (platform : Platform) (parts : List RawPart) (pairs : List RawPair) → AllByRecursion (IsJoined platform parts) pairs → list_all (has_channels platform) pairs ≡ true → list_all are_of_bytes pairs ≡ true
pairs_bytes platform parts [] joined kept = refl
pairs_bytes platform parts (pair ∷ pairs) (here, rest) kept =
    let both = and_parts (has_channels platform pair) (list_all (has_channels platform) pairs) kept in
    and_from (are_of_bytes pair) (list_all are_of_bytes pairs) (pair_bytes platform parts pair here (pair_kept platform pair both.0)) (pairs_bytes platform parts pairs rest both.1)

pub bytes_kept : (platform : Platform) (raw : RawBundle) → first_early platform raw ≡ None → list_all are_of_bytes raw.pairs ≡ true
bytes_kept platform raw none =
    let u = unbroken platform raw none in
    let five = neither (is_empty raw.parts || not (list_all (has_tile platform) raw.parts)) (has_twin shares_tile raw.parts) u.b5 in
    let there = neither (is_empty raw.parts) (not (list_all (has_tile platform) raw.parts)) five.0 in
    let tiles = not-false (list_all (has_tile platform) raw.parts) there.1 in
    let fits = fitting platform raw u.b11 in
    pairs_bytes platform raw.parts raw.pairs (all_joined platform raw.parts raw.pairs (record { tiles = tiles; ports = fits.ports }) fits.joined) (not-false (list_all (has_channels platform) raw.pairs) u.b12)
