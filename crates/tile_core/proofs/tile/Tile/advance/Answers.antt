use Rattle.tile_core.proofs.Ready.{settled_tile, settled_at, counts_fit}
use Rattle.tile_core.proofs.tile.Tile.advance.Goals as goal

pub work-requires-clause-tile : goal.work-requires-clause-tile
work-requires-clause-tile c =
    settled_tile c.args.world.now c.args.schedule.now c.args.self.now c.settle_unless.new.self c.requires.underway c.settle_unless.ensures

pub work-requires-clause-bounded : goal.work-requires-clause-bounded
work-requires-clause-bounded c =
    let at = settled_at c.args.world.now c.args.schedule.now c.args.self.now c.settle_unless.new.self c.requires.underway c.settle_unless.ensures in
    rw at c.requires.bounded

pub work-requires-clause-counted : goal.work-requires-clause-counted
work-requires-clause-counted c =
    counts_fit c.args.world.now c.args.schedule.now c.args.self.now c.settle_unless.new.self c.requires.underway c.requires.counted c.settle_unless.ensures
