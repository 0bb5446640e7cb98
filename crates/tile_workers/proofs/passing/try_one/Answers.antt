use Rattle.std.proofs.Common.{ap, ◌∙◌, arith}
use Rattle.tile_core.specs.Tile.{TileState}
use Rattle.tile_core.specs.Wires.{brought}
use Rattle.tile_core.proofs.Laws.{slot_at}
use Rattle.tile_workers.proofs.passing.try_one.Goals as goal

pub returns-in-Moved : goal.returns-in-Moved
returns-in-Moved c =
    let does = c.in-Moved.ensures in
    let moves = does.slot.0 in
    record {
      ends = does.ends;
      run = does.run;
      in_range = omega arith;
      tries = does.tries;
      answer = record {
        below = moves.below;
        at = ap (λ (tile : TileState). tile.at) moves.advances.tile
            ∙ slot_at c.args.world.now c.args.schedule.now.grants.items (brought moves.tried) c.args.station.now.tile;
      };
    }
