-- The parts of raw values that keep the rules are well-formed.
use Rattle.std.proofs.Common.{◌≡◌, ◌≢◌, ℕ, ℤ, pos, negsuc, ◌+◌, ◌*◌, ◌%◌, ◌^◌, ◌<◌, ◌≤◌, ◌+ℤ◌, ◌-ℤ◌, Bool, true, false, not, ◌&&◌, List, [], ◌∷◌, fold, map, bit_or, length, All, int_le, int_lt, nat_eq, unwrap_or, Option, Some, None, refl, sym, ap, ◌∙◌, arith}
use Rattle.std.specs.Prelude.{nat_abs, if◌then◌else◌}
use Rattle.std.specs.List.{list_any, list_all, IsDistinct, AllByRecursion}
use Rattle.std.specs.Ordering.{int_eq}
use Rattle.std.specs.Str.{bytes_eq}
use Rattle.std.proofs.lemmas.Bool.{and_parts, both_ways, not-true, ltb-true, leb-true, eq-eqb, ne_eqb}
use Rattle.std.proofs.lemmas.Bool.Decides.{Decides-int_eq}
use Rattle.std.proofs.lemmas.Int.{ints}
use Rattle.std.proofs.lemmas.List.Elements.{All-nil, All-cons, All-from_recursion}
use Rattle.std.proofs.lemmas.Nat.{pow_below}
use lib.Bits.{or_lt}
use Rattle.platform_model.specs.Limits.{is_within, is_multiple}
use Rattle.soc_base.specs.Twins.{has_twin}
use Rattle.soc_base.specs.declared.limits.TheConstants.{MOST_ROWS}
use Rattle.platform_model.specs.declared.platform.Platform.{Platform}
use Rattle.platform_model.proofs.Laws.{neither, no_remainder}
use Rattle.soc_base.specs.Slots.{slots_of}
use Rattle.bundle_model.specs.Sets.{slot_set, names}
use Rattle.trace_log.specs.Kinds.{kind_text}
use Rattle.trace_log.specs.declared.row.Kind.TheVariants.{Word, Send, Recv, Step}
use Rattle.bundle_model.specs.Rules.{is_empty, has_tile, shares_tile, is_slot, ascends, has_slots, has_region, image_fits, has_image, has_entry, is_kind, has_trace, is_port, has_ports}
use Rattle.bundle_model.specs.Bundle.{part_of}
use Rattle.bundle_model.specs.WellFormed.{IsWellFormedPart}
use Rattle.bundle_model.specs.declared.raw.RawPart.{RawPart}
use Rattle.bundle_model.proofs.Twins.{unlike_pairs}
use Rattle.bundle_model.proofs.Raws.{IsBelow, all_below, means_below, twins_mean}
use Rattle.bundle_model.proofs.SlotSets.{Rises, rises_lower, slots_of-rises, below_limit}

-- of two slots the greater is at least one above the other
above_slot : (slot next limit : ℤ) → (int_le (pos 0) slot && int_lt slot limit) ≡ true → (int_le (pos 0) next && int_lt next limit) ≡ true → int_lt slot next ≡ true → nat_abs slot + 1 ≤ nat_abs next
above_slot (pos a) (pos b) limit low high up = omega (arith, ltb-true a b up)
above_slot (negsuc a) next limit low high up = cc
above_slot (pos a) (negsuc b) limit low high up = cc

-- the slots of a part ascend and are partition slots
slots_rise : (platform : Platform) (slot : ℤ) (slots : List ℤ) → list_all (is_slot platform) (slot ∷ slots) ≡ true → ascends (slot ∷ slots) ≡ true → Rises (nat_abs slot) platform.partition_slots (map nat_abs (slot ∷ slots))
slots_rise platform slot [] all up =
    let here = and_parts (is_slot platform slot) true all in
    (omega arith, below_limit slot platform.partition_slots here.0, tt)
slots_rise platform slot (next ∷ slots) all up =
    let here = and_parts (is_slot platform slot) (list_all (is_slot platform) (next ∷ slots)) all in
    let rises = and_parts (int_lt slot next) (ascends (next ∷ slots)) up in
    let rest = slots_rise platform next slots here.1 rises.1 in
    let next_here = and_parts (is_slot platform next) (list_all (is_slot platform) slots) here.1 in
    let above = above_slot slot next (pos platform.partition_slots) here.0 next_here.0 rises.0 in
    (omega arith, below_limit slot platform.partition_slots here.0, rises_lower (nat_abs slot + 1) (nat_abs next) platform.partition_slots (map nat_abs (next ∷ slots)) above rest)

-- ascending numbers that are below a limit are below a higher one
rises_higher : (least limit high : ℕ) (ns : List ℕ) → limit ≤ high → Rises least limit ns → Rises least high ns
rises_higher least limit high [] above rises = tt
rises_higher least limit high (n ∷ ns) above (from, to, rest) = (from, omega arith, rises_higher (n + 1) limit high ns above rest)

-- ascending numbers are below their limit
rises_below : (least limit : ℕ) (ns : List ℕ) → Rises least limit ns → All (λ n. n < limit) ns
rises_below least limit [] rises = All-nil (λ n. n < limit)
rises_below least limit (n ∷ ns) (from, to, rest) = All-cons (λ n. n < limit) n ns to (rises_below (n + 1) limit ns rest)

-- the same of the slots alone
for_slots : (platform : Platform) (slots : List ℤ) → (not (is_empty slots) && list_all (is_slot platform) slots && ascends slots) ≡ true → (slots_of (slot_set slots) ≡ map nat_abs slots) × (map nat_abs slots ≢ []) × All (λ slot. slot < platform.partition_slots) (map nat_abs slots)
for_slots platform [] kept = cc
for_slots platform (slot ∷ slots) kept =
    let parts = and_parts (not (is_empty (slot ∷ slots)) && list_all (is_slot platform) (slot ∷ slots)) (ascends (slot ∷ slots)) kept in
    let all = and_parts (not (is_empty (slot ∷ slots))) (list_all (is_slot platform) (slot ∷ slots)) parts.0 in
    let rises = slots_rise platform slot slots all.1 parts.1 in
    let lowest = rises_lower 0 (nat_abs slot) platform.partition_slots (map nat_abs (slot ∷ slots)) (omega arith) rises in
    let sixteen = rises_higher 0 platform.partition_slots 16 (map nat_abs (slot ∷ slots)) platform.partition_slots_in_range.1 lowest in
    (slots_of-rises (slot ∷ slots) sixteen, (λ e. cc), rises_below 0 platform.partition_slots (map nat_abs (slot ∷ slots)) lowest)

-- a set of slots of the platform has no other bit
set_below : (platform : Platform) (slots : List ℤ) (set : ℕ) → list_all (is_slot platform) slots ≡ true → set < 2 ^ platform.partition_slots → fold (λ set slot. bit_or set (2 ^ nat_abs slot)) set slots < 2 ^ platform.partition_slots
set_below platform [] set all below = below
set_below platform (slot ∷ slots) set all below =
    let here = and_parts (is_slot platform slot) (list_all (is_slot platform) slots) all in
    let bit = pow_below (nat_abs slot) platform.partition_slots (below_limit slot platform.partition_slots here.0) in
    set_below platform slots (bit_or set (2 ^ nat_abs slot)) here.1 (or_lt platform.partition_slots set (2 ^ nat_abs slot) below bit)

slots_below : (platform : Platform) (part : RawPart) → has_slots platform part ≡ true → slot_set part.slots < 2 ^ platform.partition_slots
slots_below platform part kept =
    let parts = and_parts (not (is_empty part.slots) && list_all (is_slot platform) part.slots) (ascends part.slots) kept in
    let all = and_parts (not (is_empty part.slots)) (list_all (is_slot platform) part.slots) parts.0 in
    let some = pow_below 0 platform.partition_slots platform.partition_slots_in_range.0 in
    set_below platform part.slots 0 all.1 (omega arith)

-- the slots that a part has are those of the file
slots_kept : (platform : Platform) (part : RawPart) → has_slots platform part ≡ true → (slots_of (slot_set part.slots) ≡ map nat_abs part.slots) × (map nat_abs part.slots ≢ []) × All (λ slot. slot < platform.partition_slots) (map nat_abs part.slots)
slots_kept platform part kept = for_slots platform part.slots kept

-- what is true of a region
record Region (base len mem_bytes : ℕ) : Type 0 where
  base_aligned : base % 16 ≡ 0
  len_aligned : len % 16 ≡ 0
  least_len : 16 ≤ len
  in_memory : base + len ≤ mem_bytes

region_kept : (base len : ℤ) (mem_bytes : ℕ) → (int_le (pos 0) base && is_multiple base (pos 16) && int_le (pos 16) len && is_multiple len (pos 16) && int_le (base +ℤ len) (pos mem_bytes)) ≡ true → Region (nat_abs base) (nat_abs len) mem_bytes
region_kept (pos base) (pos len) mem_bytes kept =
    let inside = and_parts (int_le (pos 0) (pos base) && is_multiple (pos base) (pos 16) && int_le (pos 16) (pos len) && is_multiple (pos len) (pos 16)) (int_le (pos base +ℤ pos len) (pos mem_bytes)) kept in
    let len_multiple = and_parts (int_le (pos 0) (pos base) && is_multiple (pos base) (pos 16) && int_le (pos 16) (pos len)) (is_multiple (pos len) (pos 16)) inside.0 in
    let least = and_parts (int_le (pos 0) (pos base) && is_multiple (pos base) (pos 16)) (int_le (pos 16) (pos len)) len_multiple.0 in
    let base_multiple = and_parts (int_le (pos 0) (pos base)) (is_multiple (pos base) (pos 16)) least.0 in
    record {
      base_aligned = no_remainder base 16 (pos base) refl base_multiple.1;
      len_aligned = no_remainder len 16 (pos len) refl len_multiple.1;
      least_len = leb-true 16 len least.1;
      in_memory = leb-true (base + len) mem_bytes inside.1;
    }
region_kept (negsuc base) len mem_bytes kept = cc
region_kept (pos base) (negsuc len) mem_bytes kept = grind (arith, ints)

-- an image that fits
image_kept : (len : ℤ) (image : Option (List ℕ)) → image_fits len image ≡ true → 4 * length (unwrap_or image []) ≤ nat_abs len
image_kept (pos len) (Some words) kept = leb-true (4 * length words) len kept
image_kept (negsuc len) (Some words) kept = cc
image_kept len None kept = cc

-- an entry four bytes below the region's end
ends : (entry len : ℕ) → int_le (pos entry) (pos len -ℤ pos 4) ≡ true → entry + 4 ≤ len
ends entry len inside = grind (arith, ints)

-- an entry is a word of the region
entry_kept : (entry : ℤ) (len : ℕ) → (is_within entry (pos 0) (pos len -ℤ pos 4) && is_multiple entry (pos 4)) ≡ true → (nat_abs entry % 4 ≡ 0) × (nat_abs entry + 4 ≤ len)
entry_kept (pos entry) len kept =
    let parts = and_parts (is_within (pos entry) (pos 0) (pos len -ℤ pos 4)) (is_multiple (pos entry) (pos 4)) kept in
    let inside = and_parts (int_le (pos 0) (pos entry)) (int_le (pos entry) (pos len -ℤ pos 4)) parts.0 in
    (no_remainder entry 4 (pos entry) refl parts.1, ends entry len inside.1)
entry_kept (negsuc entry) len kept = cc

entry_in_region : (entry len : ℤ) → (is_within entry (pos 0) (len -ℤ pos 4) && is_multiple entry (pos 4)) ≡ true → (nat_abs entry % 4 ≡ 0) × (nat_abs entry + 4 ≤ nat_abs len)
entry_in_region entry (pos len) kept = entry_kept entry len kept
entry_in_region (pos entry) (negsuc len) kept =
    let parts = and_parts (is_within (pos entry) (pos 0) (negsuc len -ℤ pos 4)) (is_multiple (pos entry) (pos 4)) kept in
    let inside : false ≡ true = (and_parts (int_le (pos 0) (pos entry)) (int_le (pos entry) (negsuc len -ℤ pos 4)) parts.0).1 in
    absurd (both_ways false refl inside)
entry_in_region (negsuc entry) (negsuc len) kept = cc

-- a count of rows
trace_kept : (trace : ℤ) → is_within trace (pos 0) (pos MOST_ROWS) ≡ true → nat_abs trace ≤ MOST_ROWS
trace_kept (pos trace) kept = leb-true trace MOST_ROWS (and_parts (int_le (pos 0) (pos trace)) (int_le (pos trace) (pos MOST_ROWS)) kept).1
trace_kept (negsuc trace) kept = cc

-- a set of kinds
kinds_below : (word send recv step : Bool) → (if word then 1 else 0) + (if send then 2 else 0) + (if recv then 4 else 0) + (if step then 8 else 0) < 16
kinds_below word send recv step = grind arith

-- a list with no item, and one with an item
pub some_there : {Item Other : Type 0} (f : Item → Other) (items : List Item) → is_empty items ≡ false → map f items ≢ []
some_there f [] some = cc
some_there f (item ∷ items) some = λ e. cc

-- what the rules say of one part
record KeptPart (platform : Platform) (part : RawPart) : Type 0 where
  tile : has_tile platform part ≡ true
  slots : has_slots platform part ≡ true
  region : has_region platform part ≡ true
  image : has_image part ≡ true
  entry : has_entry part ≡ true
  trace : has_trace part ≡ true
  ports : has_ports platform part ≡ true

-- the ports of a part are in range and differ
ports_kept : (platform : Platform) (part : RawPart) → has_ports platform part ≡ true → AllByRecursion (IsBelow platform.ports) part.ports × (has_twin nat_eq (map nat_abs part.ports) ≡ false)
ports_kept platform part kept =
    let both = and_parts (list_all (is_port platform) part.ports) (not (has_twin int_eq part.ports)) kept in
    let below = all_below platform.ports part.ports both.0 in
    (below, sym (twins_mean platform.ports part.ports below) ∙ not-true (has_twin int_eq part.ports) both.1)

part_kept : (platform : Platform) (part : RawPart) → KeptPart platform part → IsWellFormedPart platform (part_of part)
part_kept platform part kept =
    let slots = slots_kept platform part kept.slots in
    let region = region_kept part.base part.len platform.mem_bytes kept.region in
    let traced = and_parts (is_within part.trace (pos 0) (pos MOST_ROWS) && list_all is_kind part.kinds) (not (has_twin bytes_eq part.kinds)) kept.trace in
    let rows = and_parts (is_within part.trace (pos 0) (pos MOST_ROWS)) (list_all is_kind part.kinds) traced.0 in
    let entry = entry_in_region part.entry part.len kept.entry in
    let ports = ports_kept platform part kept.ports in
    let some : slots_of (slot_set part.slots) ≢ [] = rw slots.0 slots.1 in
    let exist : All (λ slot. slot < platform.partition_slots) (slots_of (slot_set part.slots)) = rw slots.0 slots.2 in
    record {
      on_tile = below_limit part.tile platform.tiles kept.tile;
      some_slot = some;
      slots_exist = exist;
      slots_below = slots_below platform part kept.slots;
      base_aligned = region.base_aligned;
      len_aligned = region.len_aligned;
      least_len = region.least_len;
      in_memory = region.in_memory;
      image_fits = image_kept part.len part.image kept.image;
      entry_aligned = entry.0;
      entry_inside = entry.1;
      trace_fits = trace_kept part.trace rows.0;
      kinds_exist = kinds_below (names part.kinds (kind_text Word)) (names part.kinds (kind_text Send)) (names part.kinds (kind_text Recv)) (names part.kinds (kind_text Step));
      ports_exist = All-from_recursion (λ port. port < platform.ports) (map nat_abs part.ports) (means_below platform.ports part.ports ports.0);
      ports_differ = unlike_pairs (λ one other. one ≢ other) nat_eq (map nat_abs part.ports) (λ one other unlike same. both_ways (nat_eq one other) unlike (eq-eqb one other same)) ports.1;
    }

-- each part is well-formed
pub parts_kept : (platform : Platform) (parts : List RawPart) → list_all (has_tile platform) parts ≡ true → list_all (has_slots platform) parts ≡ true → list_all (has_region platform) parts ≡ true → list_all has_image parts ≡ true → list_all has_entry parts ≡ true → list_all has_trace parts ≡ true → list_all (has_ports platform) parts ≡ true → All (IsWellFormedPart platform) (map part_of parts)
parts_kept platform [] tiles slots regions images entries traces ports = All-nil (IsWellFormedPart platform)
parts_kept platform (part ∷ parts) tiles slots regions images entries traces ports =
    let tile = and_parts (has_tile platform part) (list_all (has_tile platform) parts) tiles in
    let slot = and_parts (has_slots platform part) (list_all (has_slots platform) parts) slots in
    let region = and_parts (has_region platform part) (list_all (has_region platform) parts) regions in
    let image = and_parts (has_image part) (list_all has_image parts) images in
    let entry = and_parts (has_entry part) (list_all has_entry parts) entries in
    let trace = and_parts (has_trace part) (list_all has_trace parts) traces in
    let port = and_parts (has_ports platform part) (list_all (has_ports platform) parts) ports in
    let kept : KeptPart platform part = record { tile = tile.0; slots = slot.0; region = region.0; image = image.0; entry = entry.0; trace = trace.0; ports = port.0 } in
    All-cons (IsWellFormedPart platform) (part_of part) (map part_of parts) (part_kept platform part kept)
    (parts_kept platform parts tile.1 slot.1 region.1 image.1 entry.1 trace.1 port.1)

-- two tiles that differ in the file differ
tiles_differ : (one other limit : ℤ) → (int_le (pos 0) one && int_lt one limit) ≡ true → (int_le (pos 0) other && int_lt other limit) ≡ true → int_eq one other ≡ false → nat_eq (nat_abs one) (nat_abs other) ≡ false
tiles_differ (pos one) (pos other) limit here there differ =
    ne_eqb one other (λ e. both_ways (int_eq (pos one) (pos other)) differ ((Decides-int_eq (pos one) (pos other)).1 (ap pos e)))
tiles_differ (negsuc one) other limit here there differ = cc
tiles_differ (pos one) (negsuc other) limit here there differ = cc

-- a part stands on no tile of the others
stands_alone : (platform : Platform) (part : RawPart) (others : List RawPart) → has_tile platform part ≡ true → list_all (has_tile platform) others ≡ true → list_any (shares_tile part) others ≡ false → AllByRecursion (λ tile. nat_eq (nat_abs part.tile) tile ≡ false) (map (λ p. p.tile) (map part_of others))
stands_alone platform part [] here tiles alone = tt
stands_alone platform part (other ∷ others) here tiles alone =
    let tile = and_parts (has_tile platform other) (list_all (has_tile platform) others) tiles in
    let apart = neither (shares_tile part other) (list_any (shares_tile part) others) alone in
    (tiles_differ part.tile other.tile (pos platform.tiles) here tile.0 apart.0, stands_alone platform part others here tile.1 apart.1)

-- the parts stand on different tiles
pub stand_apart : (platform : Platform) (parts : List RawPart) → list_all (has_tile platform) parts ≡ true → has_twin shares_tile parts ≡ false → IsDistinct nat_eq (map (λ p. p.tile) (map part_of parts))
unfolding IsDistinct
stand_apart platform [] tiles apart = tt
stand_apart platform (part ∷ parts) tiles apart =
    let tile = and_parts (has_tile platform part) (list_all (has_tile platform) parts) tiles in
    let alone = neither (list_any (shares_tile part) parts) (has_twin shares_tile parts) apart in
    (stands_alone platform part parts tile.0 tile.1 alone.0, stand_apart platform parts tile.1 alone.1)
