use Rattle.std.proofs.Common.{ap, ◌∙◌}
use Rattle.tile_core.specs.Slot.{with_cycles}
use Rattle.tile_core.proofs.Resting.{counts_stay}
use Rattle.tile_core.proofs.tile.Tile.exchange_around.Goals as goal

pub finish-requires : goal.finish-requires
finish-requires c =
    counts_stay c.args.world.now c.args.self.now c.cycles.new.self c.requires.tile
    (c.cycles.ensures ∙ ap (with_cycles c.args.world.now) c.exchange-delivery.ensures.tile) c.requires.counted
