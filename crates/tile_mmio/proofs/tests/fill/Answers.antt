use Rattle.std.proofs.Common.{rules, ◌*◌, ◌≤◌, length, ◌∙◌}
use Rattle.soc_base.specs.declared.region.Region.{Region}
use Rattle.tile_memory.specs.Bytes.{IsInside}
use Rattle.tile_mmio.proofs.Filled.{filled_size}
use Rattle.tile_mmio.proofs.tests.fill.Goals as goal

pub returns : goal.returns
returns c =
    let region : Region = record { base = 0; len = 64 } in
    let inside : IsInside c.args.memory.now region = search rules in
    let fits : 4 * length c.args.image.now ≤ 64 = search rules in
    filled_size c.args.memory.now c.fill.new.self c.args.image.now region inside fits c.fill.ensures ∙ c.requires
