use Rattle.std.proofs.Common.{ap, arith}
use Rattle.tile_core.specs.Tile.{TileState}
use Rattle.tile_core.proofs.Able.{end_ready_in}
use Rattle.tile_core.proofs.tile.Tile.end_grants.Goals as goal

pub end_if-requires : goal.end_if-requires
end_if-requires c =
    end_ready_in c.args.world.now c.args.schedule.now c.args.self.now c.loop-grant.self c.self.inside.slot c.loop-grant.grant-index c.as_slice-grant-items.result.now _ c.as_slice-grant-items.ensures.value (ap (λ (t : TileState). t.at) c.self.view_is) c.loop-grant.invariant c.requires (omega arith)
