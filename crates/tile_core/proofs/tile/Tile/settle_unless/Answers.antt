use Rattle.tile_core.proofs.Ready.{quiet_same}
use Rattle.tile_core.proofs.tile.Tile.settle_unless.Goals as goal

pub returns-then-quiet : goal.returns-then-quiet
returns-then-quiet c =
    quiet_same c.args.world.now c.args.schedule.now.grants.items c.args.self.now (c.requires.quiet c.if-quiet.true)
