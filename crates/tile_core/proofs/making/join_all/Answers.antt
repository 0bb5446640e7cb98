use Rattle.std.proofs.Common.{◌≡◌, List, [], ◌∷◌, ◌++◌, map, length, get_or, sym, ap, ◌∙◌, arith}
use Rattle.std.proofs.lemmas.List.{length-map, length-take-le, map-append, take_more}
use Rattle.platform_model.specs.declared.link.Link.{Link}
use Rattle.flit_link.specs.Link.{name_of_out}
use Rattle.tile_core.specs.declared.station.Station.{Station}
use Rattle.tile_core.specs.Station.{station_state}
use Rattle.tile_core.specs.inner.Joined.{MadeLink, with_in}
use Rattle.tile_core.proofs.Joining.{numbered_still, numbered_out, no_link, made_link, joined_more}
use Rattle.tile_core.proofs.making.join_all.Goals as goal

pub leave-requires-clause-numbered : goal.leave-requires-clause-numbered
leave-requires-clause-numbered c =
    numbered_still (map (λ (station : Station). station.tile) c.args.stations.now) c.loop-number.invariant.0
    c.loop-number.stations c.requires.numbered c.loop-number.invariant.2

pub enter-requires-clause-numbered : goal.enter-requires-clause-numbered
enter-requires-clause-numbered c =
    (numbered_out _ (name_of_out c.in_ok-out.out) (get_or c.args.links.now c.loop-number.number no_link) c.loop-number.stations c.leave.new.stations
    c.in_ok-leave.ensures.given
    (numbered_still (map (λ (station : Station). station.tile) c.args.stations.now) c.loop-number.invariant.0
    c.loop-number.stations c.requires.numbered c.loop-number.invariant.2)).0

pub loop-number-preserved : goal.loop-number-preserved
loop-number-preserved c =
    let made = c.loop-number.invariant.0 in
    let ring = name_of_out c.in_ok-out.out in
    let one = get_or c.args.links.now c.loop-number.number no_link in
    let tiles = map (λ (station : Station). station.tile) c.args.stations.now in
    let long : length made ≡ c.loop-number.number =
    sym (length-map made (λ (one : MadeLink). one.link)) ∙ ap length c.loop-number.invariant.1
    ∙ length-take-le c.loop-number.number c.args.links.now (omega arith) in (
      made ++ made_link one ring ∷ [],
      map-append (λ (one : MadeLink). one.link) made (made_link one ring ∷ [])
          ∙ ap (λ (links : List Link). links ++ one ∷ []) c.loop-number.invariant.1
          ∙ sym (take_more c.args.links.now c.loop-number.number no_link (omega arith)),
      joined_more tiles made one ring c.loop-number.number c.loop-number.stations c.leave.new.stations c.enter.new.stations
          c.loop-number.invariant.2 long c.in_ok-leave.ensures.given
          (c.in_ok-enter.ensures.given ∙ ap (λ name. map (with_in c.loop-number.number name one) (map station_state c.leave.new.stations)) c.in_ok-out.ensures.ends)
          c.in_ok-enter.ensures.fresh,
    )
