use Rattle.std.proofs.Common.{◌≡◌, length, refl, ◌∙◌}
use Rattle.tile_memory.specs.Bytes.{region_bytes, stored_bytes}
use Rattle.tile_memory.proofs.Laws.{take-with_region, drop-with_region, length-with_region, length-stored_bytes, length-region_bytes, stored_inside}
use Rattle.tile_mmio.proofs.part_bus.PartBusBus.store.Goals as goal

-- a store in the region leaves the bytes outside it
pub returns-in-Ok-clause-kept : goal.returns-in-Ok-clause-kept
returns-in-Ok-clause-kept c =
    let bus = c.args.self.now in
    let memory = bus.memory.now in
    let old = region_bytes memory bus.region in
    let new = stored_bytes old c.args.addr c.args.width c.args.value in
    let fits : length new ≡ bus.region.len = length-stored_bytes old c.args.addr c.args.width c.args.value (stored_inside old c.args.addr c.args.width c.in-Ok.ensures.answer) ∙ length-region_bytes memory bus.region bus.inside in
    rw c.in-Ok.ensures.stored (rw (take-with_region memory bus.region new bus.inside, drop-with_region memory bus.region new bus.inside fits, length-with_region memory bus.region new bus.inside fits) refl)
