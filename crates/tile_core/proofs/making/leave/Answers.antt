use Rattle.std.proofs.Common.{◌≡◌, ◌<◌, [], ◌∷◌, ◌++◌, map, set, length, get_or, sym, ap, ◌∙◌, arith}
use Rattle.std.specs.List.{range_with_len}
use Rattle.std.proofs.lemmas.List.{map-set, length-map, get_or-map}
use Rattle.flit_link.specs.Link.{name_of_out}
use Rattle.tile_core.specs.Station.{StationState, station_state}
use Rattle.tile_core.specs.inner.Joined.{fresh_end}
use Rattle.tile_core.proofs.Stepping.{map_map}
use Rattle.tile_core.proofs.Joining.{out_given}
use Rattle.tile_core.proofs.making.leave.Goals as goal

pub returns-clause-given : goal.returns-clause-given
returns-clause-given c =
    let stations = c.args.stations.now in
    let states = map station_state stations in
    let link = c.args.link.now in
    let at : c.from.result ≡ link.from = c.from.ensures in
    let low : link.from < length stations = c.requires.between.from in
    let d = station_state c.index-stations-from.result in
    let item = c.index-stations-from.result in
    let read : get_or states link.from d ≡ station_state (get_or stations c.from.result item) =
    get_or-map station_state stations link.from item d low
    ∙ ap (λ k. station_state (get_or stations k item)) (sym at) in
    let add = λ (station : StationState). record station { outs = station.outs ++ fresh_end c.args.number link.out (name_of_out c.args.out) ∷ [] } in
    map-set station_state stations c.from.result c.give_out.new.station
    ∙ ap (λ k. set states k (station_state c.give_out.new.station)) at
    ∙ out_given c.args.number (name_of_out c.args.out) link states (station_state c.give_out.new.station) d
    (sym (map_map (λ (station : StationState). station.tile.number) station_state stations) ∙ c.requires.numbered ∙ sym (ap (range_with_len 0) (length-map stations station_state)))
    (omega (arith, low, length-map stations station_state))
    (c.in_ok-give_out.ensures.given ∙ sym (ap add read))
