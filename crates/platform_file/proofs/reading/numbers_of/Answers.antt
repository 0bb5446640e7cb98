use Rattle.std.proofs.Common.{rules, w64, ◌∙◌}
use Rattle.std.proofs.lemmas.Int.{to_z-of_z}
use Rattle.platform_file.specs.Reading.{platform_of}
use Rattle.platform_file.proofs.reading.numbers_of.Goals as goal

pub returns : goal.returns
unfolding platform_of
returns c =
    let tiles = to_z-of_z w64 c.integer.result (search rules) ∙ c.integer.ensures in
    let mem_bytes = to_z-of_z w64 c.integer-2.result (search rules) ∙ c.integer-2.ensures in
    let slot_cycles = to_z-of_z w64 c.integer-3.result (search rules) ∙ c.integer-3.ensures in
    let table_slots = to_z-of_z w64 c.integer-4.result (search rules) ∙ c.integer-4.ensures in
    let kernel_cycles = to_z-of_z w64 c.integer-5.result (search rules) ∙ c.integer-5.ensures in
    let partition_cycles = to_z-of_z w64 c.integer-6.result (search rules) ∙ c.integer-6.ensures in
    let partition_slots = to_z-of_z w64 c.integer-7.result (search rules) ∙ c.integer-7.ensures in
    let ports = to_z-of_z w64 c.integer-8.result (search rules) ∙ c.integer-8.ensures in
    let queue = to_z-of_z w64 c.integer-9.result (search rules) ∙ c.integer-9.ensures in
    rw (tiles, mem_bytes, slot_cycles, table_slots, kernel_cycles, partition_cycles, partition_slots, ports, queue, c.requires.links, c.requires.costs)
