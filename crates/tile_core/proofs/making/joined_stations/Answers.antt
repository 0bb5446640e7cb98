use Rattle.std.proofs.Common.{◌≡◌, ℕ, List, [], map, length, All, sym, ap, subst, ◌∙◌}
use Rattle.std.specs.List.{range_with_len}
use Rattle.std.proofs.lemmas.List.FromFn.{length-map-range_with_len}
use Rattle.platform_model.specs.declared.link.Link.{Link}
use Rattle.tile_core.specs.declared.station.Station.{Station}
use Rattle.tile_core.specs.Tile.{TileState, fresh_tile}
use Rattle.tile_core.specs.inner.Joined.{AreJoined, AreNumbered, IsBetween}
use Rattle.tile_core.proofs.Joining.{many_joined}
use Rattle.tile_core.proofs.FreshStations.{links_between, fresh_numbered, tiles_are, refilled}
use Rattle.tile_core.proofs.making.joined_stations.Goals as goal

pub join_all-requires-clause-between : goal.join_all-requires-clause-between
join_all-requires-clause-between c =
    let world = c.args.world.now in
    let fresh = fresh_tile world c.args.loads.now in
    let tiles = map fresh (range_with_len 0 world.platform.tiles) in
    let many : length c.as_mut_slice.result.now ≡ world.platform.tiles =
    ap length c.as_mut_slice.ensures.value ∙ many_joined tiles [] c.in_ok-stations.stations.items c.in_ok-stations.ensures
    ∙ length-map-range_with_len fresh 0 world.platform.tiles in
    subst (λ (links : List Link). All (IsBetween (length c.as_mut_slice.result.now)) links) (sym c.as_slice.ensures)
    (subst (λ (n : ℕ). All (IsBetween n) world.platform.links) (sym many) (links_between world.platform))

pub join_all-requires-clause-numbered : goal.join_all-requires-clause-numbered
join_all-requires-clause-numbered c =
    let world = c.args.world.now in
    let tiles = map (fresh_tile world c.args.loads.now) (range_with_len 0 world.platform.tiles) in
    subst AreNumbered
    (sym (ap (map (λ (station : Station). station.tile)) c.as_mut_slice.ensures.value
    ∙ tiles_are tiles [] c.in_ok-stations.stations.items c.in_ok-stations.ensures))
    (fresh_numbered world c.args.loads.now world.platform.tiles)

pub join_all-requires-clause-bare : goal.join_all-requires-clause-bare
join_all-requires-clause-bare c =
    let world = c.args.world.now in
    let tiles = map (fresh_tile world c.args.loads.now) (range_with_len 0 world.platform.tiles) in
    let items = c.in_ok-stations.stations.items in
    subst (λ (stations : List Station). AreJoined (map (λ (station : Station). station.tile) stations) [] stations)
    (sym c.as_mut_slice.ensures.value)
    (subst (λ (all : List TileState). AreJoined all [] items) (sym (tiles_are tiles [] items c.in_ok-stations.ensures))
    c.in_ok-stations.ensures)

pub returns : goal.returns
returns c =
    let world = c.args.world.now in
    let fresh = fresh_tile world c.args.loads.now in
    let tiles = map fresh (range_with_len 0 world.platform.tiles) in
    let items = c.in_ok-stations.stations.items in
    let new = c.join_all.new.stations in
    let (made, links, are) = c.in_ok-join_all.ensures in
    let same : map (λ (station : Station). station.tile) c.as_mut_slice.result.now ≡ tiles =
    ap (map (λ (station : Station). station.tile)) c.as_mut_slice.ensures.value
    ∙ tiles_are tiles [] items c.in_ok-stations.ensures in
    let joined = subst (λ (all : List TileState). AreJoined all made new) same are in
    let long : length new ≡ c.in_ok-stations.stations.len =
    many_joined tiles made new joined ∙ sym (many_joined tiles [] items c.in_ok-stations.ensures)
    ∙ sym c.in_ok-stations.stations.ok.0 in (
      made,
      links ∙ c.as_slice.ensures,
      subst (λ (stations : List Station). AreJoined tiles made stations)
          (sym (refilled c.in_ok-stations.stations.len new items long)) joined,
    )
