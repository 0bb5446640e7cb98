use Rattle.std.proofs.Common.{List, [], ◌∷◌, ◌++◌, map, sym, ap, subst, ◌∙◌, arith}
use Rattle.std.specs.List.{range_with_len}
use Rattle.std.proofs.lemmas.List.FromFn.{map-range_with_len_more}
use Rattle.tile_core.specs.declared.station.Station.{Station}
use Rattle.tile_core.specs.Tile.{TileState, fresh_tile}
use Rattle.tile_core.specs.inner.Joined.{joined, AreJoined}
use Rattle.tile_core.proofs.Joining.{bare_more}
use Rattle.tile_core.proofs.making.bare_stations.Goals as goal

pub loop-number-preserved : goal.loop-number-preserved
loop-number-preserved c =
    let number = c.loop-number.number in
    let fresh = fresh_tile c.args.world.now c.args.loads.now in
    let more = bare_more (map fresh (range_with_len 0 number)) (fresh number) c.loop-number.stations.items c.in_ok-bare.field-0
    c.loop-number.invariant.0 (c.in_ok-bare.ensures.state ∙ ap (joined []) c.in_ok-tile.ensures) c.in_ok-bare.ensures.fresh in (
      subst (λ (tiles : List TileState). AreJoined tiles [] c.push_reserved.new.self.items) (sym (map-range_with_len_more fresh 0 number number (omega arith)))
          (subst (λ (stations : List Station). AreJoined (map fresh (range_with_len 0 number) ++ fresh number ∷ []) [] stations) (sym c.push_reserved.ensures.items) more),
      omega arith,
      omega arith,
    )
