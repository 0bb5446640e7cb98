use Rattle.std.proofs.Common.{ap, arith}
use Rattle.tile_core.specs.Tile.{TileState}
use Rattle.tile_core.proofs.Able.{begin_ready_in}
use Rattle.tile_core.proofs.tile.Tile.begin_grants.Goals as goal

pub begin_if-requires : goal.begin_if-requires
begin_if-requires c =
    begin_ready_in c.args.world.now c.args.schedule.now c.args.self.now c.loop-grant.self c.self.inside.slot c.loop-grant.grant-index c.as_slice-grant-items.result.now _ c.as_slice-grant-items.ensures.value (ap (λ (t : TileState). t.at) c.self.view_is) c.loop-grant.invariant c.requires (omega arith)
