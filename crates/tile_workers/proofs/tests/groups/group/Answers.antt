use Rattle.std.proofs.Common.{◌≡◌, List, map, subst}
use Rattle.std.specs.List.{All, range_with_len}
use Rattle.std.proofs.lemmas.List.Elements.{All-take}
use Rattle.bundle_model.specs.declared.world.LoadName.{LoadName}
use Rattle.tile_core.specs.declared.station.Station.{Station}
use Rattle.tile_core.specs.Station.{station_state, HasRun}
use Rattle.tile_workers.proofs.Small.{fresh_low, some_of}
use Rattle.tile_workers.proofs.tests.groups.group.Goals as goal
use Rattle.tile_workers.proofs.tests.groups.group.Goals.{in-Both, in-First}

pub returns-clause-run : goal.returns-clause-run
returns-clause-run c = λ grants.
    let world = c.args.setup.now.world in
    let loads = c.args.setup.now.loads in
    let stations = c.in_ok-stations.stations.items in
    let all : All (HasRun world loads grants) (map station_state stations) =
    subst (λ (some : List LoadName). All (HasRun world some grants) (map station_state stations)) c.as_slice.ensures
    (c.in_ok-stations.ensures.run grants).each in
    elim c.match-tiles.branch [
      | in-Both w ↦ rw w.stations-is all
      | in-First w ↦ rw (w.stations-is, w.truncate.ensures.items) (some_of (HasRun world loads grants) 1 stations all)
    ]

pub returns-clause-fresh : goal.returns-clause-fresh
returns-clause-fresh c =
    let world = c.args.setup.now.world in
    let stations = c.in_ok-stations.stations.items in
    let low = fresh_low world c.as_slice.result.now stations (range_with_len 0 world.platform.tiles)
    c.in_ok-stations.ensures.fresh.tiles in
    elim c.match-tiles.branch [
      | in-Both w ↦ rw w.stations-is low
      | in-First w ↦ rw (w.stations-is, w.truncate.ensures.items)
          (All-take (λ (station : Station). station.tile.at ≡ 0) 1 stations low)
    ]
