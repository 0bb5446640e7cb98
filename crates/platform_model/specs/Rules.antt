-- The rules P4 to P12 over the raw numbers of a platform file, and the least that is broken.
use Rattle.std.specs.Prelude.{ℤ, pos, Bool, false, not, ◌&&◌, ◌||◌, nat_le, List, [], ◌∷◌, length, Option}
use Rattle.std.specs.List.{list_all, find}
use Rattle.platform_model.specs.Limits.{is_within, is_multiple}
use Rattle.soc_base.specs.Twins.{has_twin}
use Rattle.soc_base.specs.declared.limits.TheConstants.{MOST_TILES, MOST_LINKS, LEAST_MEMORY, MOST_MEMORY, MOST_SLOT_CYCLES, MOST_TABLE_SLOTS, LEAST_KERNEL_CYCLES, MOST_KERNEL_CYCLES, MOST_PARTITION_CYCLES, MOST_PARTITION_SLOTS, MOST_PORTS, MOST_QUEUE, MOST_COST}
use Rattle.platform_model.specs.Links.{joins_tiles, has_router_ports, leaves_alike, enters_alike}
use Rattle.platform_model.specs.declared.raw.RawCosts.{RawCosts}
use Rattle.platform_model.specs.declared.raw.RawPlatform.{RawPlatform}
use Rattle.platform_model.specs.declared.rules.PRule.{PRule}
use Rattle.platform_model.specs.declared.rules.PRule.TheVariants.{P1, P2, P3, P4, P5, P6, P7, P8, P9, P10, P11, P12}

-- the bytes that a tile's memory may have
abbrev pub is_memory : ℤ → Bool
is_memory bytes = is_within bytes (pos LEAST_MEMORY) (pos MOST_MEMORY) && is_multiple bytes (pos 16)

-- the times of a frame are in their ranges
abbrev pub is_frame : RawPlatform → Bool
is_frame raw =
    is_within raw.kernel_cycles (pos LEAST_KERNEL_CYCLES) (pos MOST_KERNEL_CYCLES)
    && is_within raw.partition_cycles (pos 1) (pos MOST_PARTITION_CYCLES)
    && is_within raw.partition_slots (pos 1) (pos MOST_PARTITION_SLOTS)

-- what an instruction may cost
abbrev pub is_cost : ℤ → Bool
is_cost cycles = is_within cycles (pos 1) (pos MOST_COST)

-- each cost is one that an instruction may have
abbrev pub are_costs : RawCosts → Bool
are_costs costs =
    list_all is_cost
    (costs.integer ∷ costs.mul ∷ costs.div ∷ costs.load ∷ costs.store
    ∷ costs.taken ∷ costs.untaken ∷ costs.jump ∷ costs.device ∷ costs.system ∷ [])

-- whether the raw numbers break a rule; P1 to P3 speak of the file alone
abbrev pub breaks : PRule → RawPlatform → Bool
breaks P4 raw = not (is_within raw.tiles (pos 1) (pos MOST_TILES))
breaks P5 raw = not (is_memory raw.mem_bytes)
breaks P6 raw =
    not (is_within raw.slot_cycles (pos 1) (pos MOST_SLOT_CYCLES)
    && is_within raw.table_slots (pos 1) (pos MOST_TABLE_SLOTS))
breaks P7 raw = not (is_frame raw)
breaks P8 raw = not (is_within raw.ports (pos 0) (pos MOST_PORTS) && is_within raw.queue (pos 1) (pos MOST_QUEUE))
breaks P9 raw = not (nat_le (length raw.links) MOST_LINKS && list_all (joins_tiles raw.tiles) raw.links)
breaks P10 raw = not (list_all has_router_ports raw.links)
breaks P11 raw = has_twin leaves_alike raw.links || has_twin enters_alike raw.links
breaks P12 raw = not (are_costs raw.costs)
breaks P1 raw = false
breaks P2 raw = false
breaks P3 raw = false

-- the rules of the raw numbers, in their order
abbrev pub number_rules : List PRule
number_rules = P4 ∷ P5 ∷ P6 ∷ P7 ∷ P8 ∷ P9 ∷ P10 ∷ P11 ∷ P12 ∷ []

-- the least rule that the raw numbers break
abbrev pub first_rule : RawPlatform → Option PRule
first_rule raw = find (λ rule. breaks rule raw) number_rules
