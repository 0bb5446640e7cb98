use Rattle.std.proofs.Common.{◌∙◌, lit<}
use Rattle.soc_base.specs.declared.limits.TheConstants.{MOST_TILES, LEAST_MEMORY, MOST_MEMORY, MOST_SLOT_CYCLES, MOST_TABLE_SLOTS, LEAST_KERNEL_CYCLES, MOST_KERNEL_CYCLES, MOST_PARTITION_CYCLES, MOST_PARTITION_SLOTS, MOST_PORTS, MOST_QUEUE}
use Rattle.platform_model.proofs.Ranges.{read_back, within_read, no_remainder}
use Rattle.platform_model.proofs.Kept.{kept, few_links_kept, links_join_kept}
use Rattle.platform_model.proofs.check.platform_of.Goals as goal

pub byte_within-requires-2 : goal.byte_within-requires-2
byte_within-requires-2 c = within_read c.args.raw.now.slot_cycles 1 MOST_SLOT_CYCLES (lit< tt) (kept c.args.raw.now c.requires.unbroken).slot_cycles

pub byte_within-requires-3 : goal.byte_within-requires-3
byte_within-requires-3 c = within_read c.args.raw.now.table_slots 1 MOST_TABLE_SLOTS (lit< tt) (kept c.args.raw.now c.requires.unbroken).table_slots

pub within-requires-2 : goal.within-requires-2
within-requires-2 c = rw (c.from.ensures, c.from-2.ensures) (within_read c.args.raw.now.kernel_cycles LEAST_KERNEL_CYCLES MOST_KERNEL_CYCLES (lit< tt) (kept c.args.raw.now c.requires.unbroken).kernel_cycles)

pub within-requires-3 : goal.within-requires-3
within-requires-3 c = within_read c.args.raw.now.partition_cycles 1 MOST_PARTITION_CYCLES (lit< tt) (kept c.args.raw.now c.requires.unbroken).partition_cycles

pub byte_within-requires-4 : goal.byte_within-requires-4
byte_within-requires-4 c = within_read c.args.raw.now.partition_slots 1 MOST_PARTITION_SLOTS (lit< tt) (kept c.args.raw.now c.requires.unbroken).partition_slots

pub byte_within-requires-5 : goal.byte_within-requires-5
byte_within-requires-5 c = within_read c.args.raw.now.ports 0 MOST_PORTS (lit< tt) (kept c.args.raw.now c.requires.unbroken).ports

pub byte_within-requires-6 : goal.byte_within-requires-6
byte_within-requires-6 c = within_read c.args.raw.now.queue 1 MOST_QUEUE (lit< tt) (kept c.args.raw.now c.requires.unbroken).queue

pub costs_of-requires : goal.costs_of-requires
costs_of-requires c = (kept c.args.raw.now c.requires.unbroken).costs

pub invariant_of-result-clause-mem_bytes_in_range : goal.invariant_of-result-clause-mem_bytes_in_range
invariant_of-result-clause-mem_bytes_in_range c =
    let k = kept c.args.raw.now c.requires.unbroken in
    let same = c.within.ensures.same ∙ read_back c.args.raw.now.mem_bytes LEAST_MEMORY MOST_MEMORY (lit< tt) k.mem_bytes in
    (c.within.ensures.least, c.within.ensures.greatest, no_remainder c.within.result 16 c.args.raw.now.mem_bytes same k.aligned)

pub invariant_of-result-clause-links_in_range : goal.invariant_of-result-clause-links_in_range
invariant_of-result-clause-links_in_range c = few_links_kept c.args.raw.now c.args.links c.requires.links (kept c.args.raw.now c.requires.unbroken)

pub invariant_of-result-clause-links_join_tiles : goal.invariant_of-result-clause-links_join_tiles
invariant_of-result-clause-links_join_tiles c =
    let k = kept c.args.raw.now c.requires.unbroken in
    let same = c.byte_within.ensures.same ∙ read_back c.args.raw.now.tiles 1 MOST_TILES (lit< tt) k.tiles in
    links_join_kept c.args.raw.now c.args.links c.byte_within.result same c.requires.links k

pub invariant_of-result-clause-links_have_ports : goal.invariant_of-result-clause-links_have_ports
invariant_of-result-clause-links_have_ports c = rw c.requires.links (kept c.args.raw.now c.requires.unbroken).links_have_ports

pub invariant_of-result-clause-links_leave_apart : goal.invariant_of-result-clause-links_leave_apart
invariant_of-result-clause-links_leave_apart c = rw c.requires.links (kept c.args.raw.now c.requires.unbroken).links_leave_apart

pub invariant_of-result-clause-links_enter_apart : goal.invariant_of-result-clause-links_enter_apart
invariant_of-result-clause-links_enter_apart c = rw c.requires.links (kept c.args.raw.now c.requires.unbroken).links_enter_apart
