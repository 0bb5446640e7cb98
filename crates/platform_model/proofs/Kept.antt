-- What is true of raw numbers that break no rule.
use Rattle.std.proofs.Common.{◌≡◌, ℕ, ℤ, pos, ◌≤◌, Bool, true, false, not, ◌&&◌, List, [], ◌∷◌, map, length, nat_le, None, refl, arith}
use Rattle.std.proofs.lemmas.List.{length-map}
use Rattle.std.specs.List.{list_all, find}
use Rattle.std.proofs.lemmas.Bool.{and_parts, not-false, leb-true}
use Rattle.std.proofs.lemmas.Int.{ints}
use Rattle.platform_model.specs.Limits.{is_within, is_multiple}
use Rattle.soc_base.specs.Twins.{has_twin}
use Rattle.soc_base.specs.declared.limits.TheConstants.{MOST_TILES, MOST_LINKS, LEAST_MEMORY, MOST_MEMORY, MOST_SLOT_CYCLES, MOST_TABLE_SLOTS, LEAST_KERNEL_CYCLES, MOST_KERNEL_CYCLES, MOST_PARTITION_CYCLES, MOST_PARTITION_SLOTS, MOST_PORTS, MOST_QUEUE}
use Rattle.platform_model.specs.Links.{raw_link, joins_tiles, has_router_ports, leaves_alike, enters_alike}
use Rattle.platform_model.specs.Rules.{are_costs, breaks, first_rule}
use Rattle.platform_model.specs.declared.link.Link.{Link}
use Rattle.platform_model.specs.declared.raw.RawLink.{RawLink}
use Rattle.platform_model.specs.declared.raw.RawPlatform.{RawPlatform}
use Rattle.platform_model.specs.declared.rules.PRule.{PRule}
use Rattle.platform_model.specs.declared.rules.PRule.TheVariants.{P4, P5, P6, P7, P8, P9, P10, P11, P12}
use Rattle.platform_model.proofs.Passing.{passed_over, neither}

-- no rule is broken
pub record Unbroken (raw : RawPlatform) : Type 0 where
  pub p4 : breaks P4 raw ≡ false
  pub p5 : breaks P5 raw ≡ false
  pub p6 : breaks P6 raw ≡ false
  pub p7 : breaks P7 raw ≡ false
  pub p8 : breaks P8 raw ≡ false
  pub p9 : breaks P9 raw ≡ false
  pub p10 : breaks P10 raw ≡ false
  pub p11 : breaks P11 raw ≡ false
  pub p12 : breaks P12 raw ≡ false

pub unbroken : (raw : RawPlatform) → first_rule raw ≡ None → Unbroken raw
unbroken raw none =
    let test : PRule → Bool = λ rule. breaks rule raw in
    let four = passed_over (breaks P4 raw) P4 (find test (P5 ∷ P6 ∷ P7 ∷ P8 ∷ P9 ∷ P10 ∷ P11 ∷ P12 ∷ [])) none in
    let five = passed_over (breaks P5 raw) P5 (find test (P6 ∷ P7 ∷ P8 ∷ P9 ∷ P10 ∷ P11 ∷ P12 ∷ [])) four.1 in
    let six = passed_over (breaks P6 raw) P6 (find test (P7 ∷ P8 ∷ P9 ∷ P10 ∷ P11 ∷ P12 ∷ [])) five.1 in
    let seven = passed_over (breaks P7 raw) P7 (find test (P8 ∷ P9 ∷ P10 ∷ P11 ∷ P12 ∷ [])) six.1 in
    let eight = passed_over (breaks P8 raw) P8 (find test (P9 ∷ P10 ∷ P11 ∷ P12 ∷ [])) seven.1 in
    let nine = passed_over (breaks P9 raw) P9 (find test (P10 ∷ P11 ∷ P12 ∷ [])) eight.1 in
    let ten = passed_over (breaks P10 raw) P10 (find test (P11 ∷ P12 ∷ [])) nine.1 in
    let eleven = passed_over (breaks P11 raw) P11 (find test (P12 ∷ [])) ten.1 in
    let twelve = passed_over (breaks P12 raw) P12 (find test []) eleven.1 in
    record { p4 = four.0; p5 = five.0; p6 = six.0; p7 = seven.0; p8 = eight.0; p9 = nine.0; p10 = ten.0; p11 = eleven.0; p12 = twelve.0 }

-- each number is in its range
pub record Kept (raw : RawPlatform) : Type 0 where
  pub tiles : is_within raw.tiles (pos 1) (pos MOST_TILES) ≡ true
  pub mem_bytes : is_within raw.mem_bytes (pos LEAST_MEMORY) (pos MOST_MEMORY) ≡ true
  pub aligned : is_multiple raw.mem_bytes (pos 16) ≡ true
  pub slot_cycles : is_within raw.slot_cycles (pos 1) (pos MOST_SLOT_CYCLES) ≡ true
  pub table_slots : is_within raw.table_slots (pos 1) (pos MOST_TABLE_SLOTS) ≡ true
  pub kernel_cycles : is_within raw.kernel_cycles (pos LEAST_KERNEL_CYCLES) (pos MOST_KERNEL_CYCLES) ≡ true
  pub partition_cycles : is_within raw.partition_cycles (pos 1) (pos MOST_PARTITION_CYCLES) ≡ true
  pub partition_slots : is_within raw.partition_slots (pos 1) (pos MOST_PARTITION_SLOTS) ≡ true
  pub ports : is_within raw.ports (pos 0) (pos MOST_PORTS) ≡ true
  pub queue : is_within raw.queue (pos 1) (pos MOST_QUEUE) ≡ true
  pub few_links : nat_le (length raw.links) MOST_LINKS ≡ true
  pub links_join : list_all (joins_tiles raw.tiles) raw.links ≡ true
  pub links_have_ports : list_all has_router_ports raw.links ≡ true
  pub links_leave_apart : has_twin leaves_alike raw.links ≡ false
  pub links_enter_apart : has_twin enters_alike raw.links ≡ false
  pub costs : are_costs raw.costs ≡ true

-- both of two tests, where it is false that not both pass
both : (one other : Bool) → not (one && other) ≡ false → (one ≡ true) × (other ≡ true)
both one other kept = and_parts one other (not-false (one && other) kept)

pub kept : (raw : RawPlatform) → first_rule raw ≡ None → Kept raw
kept raw none =
    let u = unbroken raw none in
    let five = both (is_within raw.mem_bytes (pos LEAST_MEMORY) (pos MOST_MEMORY)) (is_multiple raw.mem_bytes (pos 16)) u.p5 in
    let six = both (is_within raw.slot_cycles (pos 1) (pos MOST_SLOT_CYCLES)) (is_within raw.table_slots (pos 1) (pos MOST_TABLE_SLOTS)) u.p6 in
    let seven = both (is_within raw.kernel_cycles (pos LEAST_KERNEL_CYCLES) (pos MOST_KERNEL_CYCLES) && is_within raw.partition_cycles (pos 1) (pos MOST_PARTITION_CYCLES)) (is_within raw.partition_slots (pos 1) (pos MOST_PARTITION_SLOTS)) u.p7 in
    let cycles = and_parts (is_within raw.kernel_cycles (pos LEAST_KERNEL_CYCLES) (pos MOST_KERNEL_CYCLES)) (is_within raw.partition_cycles (pos 1) (pos MOST_PARTITION_CYCLES)) seven.0 in
    let eight = both (is_within raw.ports (pos 0) (pos MOST_PORTS)) (is_within raw.queue (pos 1) (pos MOST_QUEUE)) u.p8 in
    let nine = both (nat_le (length raw.links) MOST_LINKS) (list_all (joins_tiles raw.tiles) raw.links) u.p9 in
    let eleven = neither (has_twin leaves_alike raw.links) (has_twin enters_alike raw.links) u.p11 in
    record {
      tiles = not-false (is_within raw.tiles (pos 1) (pos MOST_TILES)) u.p4;
      mem_bytes = five.0;
      aligned = five.1;
      slot_cycles = six.0;
      table_slots = six.1;
      kernel_cycles = cycles.0;
      partition_cycles = cycles.1;
      partition_slots = seven.1;
      ports = eight.0;
      queue = eight.1;
      few_links = nine.0;
      links_join = nine.1;
      links_have_ports = not-false (list_all has_router_ports raw.links) u.p10;
      links_leave_apart = eleven.0;
      links_enter_apart = eleven.1;
      costs = not-false (are_costs raw.costs) u.p12;
    }

-- a link that joins two of the tiles joins two of the most that there may be
joins_most : (tiles : ℤ) (link : RawLink) → is_within tiles (pos 1) (pos MOST_TILES) ≡ true → joins_tiles tiles link ≡ true → joins_tiles (pos MOST_TILES) link ≡ true
joins_most tiles link few joins = grind (arith, ints)

pub all_join_most : (tiles : ℤ) (links : List RawLink) → is_within tiles (pos 1) (pos MOST_TILES) ≡ true → list_all (joins_tiles tiles) links ≡ true → list_all (joins_tiles (pos MOST_TILES)) links ≡ true
all_join_most tiles [] few all = refl
all_join_most tiles (link ∷ links) few all =
    let parts = and_parts (joins_tiles tiles link) (list_all (joins_tiles tiles) links) all in
    rw (joins_most tiles link few parts.0) (all_join_most tiles links few parts.1)

-- the links with a platform's raw numbers are few
pub few_links_kept : (raw : RawPlatform) (links : List Link) → map raw_link links ≡ raw.links → Kept raw → length links ≤ MOST_LINKS
few_links_kept raw links same k =
    let count : length (map raw_link links) ≡ length raw.links = rw same refl in
    omega (arith, count, length-map links raw_link, leb-true (length raw.links) MOST_LINKS k.few_links)

-- the links with a platform's raw numbers join its tiles
pub links_join_kept : (raw : RawPlatform) (links : List Link) (tiles : ℕ) → pos tiles ≡ raw.tiles → map raw_link links ≡ raw.links → Kept raw → list_all (joins_tiles (pos tiles)) (map raw_link links) ≡ true
links_join_kept raw links tiles count same k = rw (count, same) k.links_join
