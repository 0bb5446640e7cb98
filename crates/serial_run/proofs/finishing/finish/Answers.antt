use Rattle.std.proofs.Common.{List, map, take, length, sym, ap, subst, ◌∙◌, arith}
use Rattle.std.proofs.lemmas.List.{length-take-le}
use Rattle.platform_model.specs.declared.link.Link.{Link}
use Rattle.tile_core.specs.Station.{station_state, HaveRun}
use Rattle.serial_run.specs.inner.Hops.{CanFindAll, AreHops, all_ends}
use Rattle.serial_run.proofs.Found.{can_find_all}
use Rattle.serial_run.proofs.Placed.{all_have_ends}
use Rattle.serial_run.proofs.Starting.{front_places, going_first, within_first}
use Rattle.serial_run.proofs.InStep.{in_step}
use Rattle.serial_run.proofs.finishing.finish.Goals as goal

pub find_hops-found-requires-clause-joined : goal.find_hops-found-requires-clause-joined
find_hops-found-requires-clause-joined c =
    let Can = λ (links : List Link). CanFindAll links c.args.stations.now in
    subst Can (sym c.as_slice-links.ensures)
    (can_find_all c.args.world.now.platform c.args.stations.now c.requires.run.linked)

pub carry_all-requires-clause-ends : goal.carry_all-requires-clause-ends
carry_all-requires-clause-ends c =
    let links = c.as_slice-links.result.now in
    let ends = all_ends (map station_state c.args.stations.now) in
    all_have_ends ends links (take (length links) c.find_hops-found.result)
    (front_places ends links c.find_hops-found.result c.find_hops-found.ensures)
    (length-take-le (length links) c.find_hops-found.result
    (omega (arith, ap length c.as_slice-links.ensures, c.args.world.now.platform.links_in_range)))

pub go_on-requires-clause-going : goal.go_on-requires-clause-going
go_on-requires-clause-going c =
    let world = c.args.world.now in
    let links = c.as_slice-links.result.now in
    let ends = all_ends (map station_state c.args.stations.now) in
    let hops = take (length links) c.find_hops-found.result in
    let Places = λ (ls : List Link). AreHops ends ls hops in
    going_first world c.args.schedule.now c.args.until c.args.stations.now c.carry_all.new.stations c.requires
    c.carry_all.ensures.seen hops
    (subst Places c.as_slice-links.ensures (front_places ends links c.find_hops-found.result c.find_hops-found.ensures))
    (length-take-le (length links) c.find_hops-found.result
    (omega (arith, ap length c.as_slice-links.ensures, c.args.world.now.platform.links_in_range))
    ∙ ap length c.as_slice-links.ensures)
    c.carry_all.ensures.carried

pub go_on-requires-clause-within : goal.go_on-requires-clause-within
go_on-requires-clause-within c =
    within_first c.args.world.now c.args.schedule.now c.args.until c.args.stations.now c.carry_all.new.stations
    c.requires c.carry_all.ensures.seen

pub returns : goal.returns
returns c = λ loads before.
    let Have = HaveRun c.args.world.now loads c.args.schedule.now.grants.items in
    in_step c.args.world.now loads c.args.schedule.now _ c.args.until c.go_on.new.stations
    (c.go_on.ensures.run loads (subst Have (sym c.carry_all.ensures.seen) before)) c.go_on.ensures.going
    c.go_on.ensures.within
    c.taken_first.ensures
