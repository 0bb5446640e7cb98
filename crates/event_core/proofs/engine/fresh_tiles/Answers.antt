use Rattle.std.proofs.Common.{arith, ◌∙◌, ◌++◌, ◌∷◌, [], ap₂, sym, List}
use Rattle.std.proofs.lemmas.List.FromFn.{map-range_with_len_more}
use Rattle.tile_core.specs.Tile.{TileState, fresh_tile}
use Rattle.event_core.proofs.engine.fresh_tiles.Goals as goal

pub loop-number-preserved : goal.loop-number-preserved
loop-number-preserved c =
    let more = map-range_with_len_more (fresh_tile c.args.world.now c.args.loads.now) 0 c.loop-number.number c.loop-number.number (omega arith) in
    record {
      made = c.push_reserved.ensures.items ∙ ap₂ (λ (l : List TileState) (t : TileState). l ++ t ∷ []) c.loop-number.invariant.made c.in_ok-tile.ensures ∙ sym more;
      count = omega arith;
      room = omega arith;
    }
