use Rattle.std.proofs.Common.{List, map, sym, subst}
use Rattle.tile_core.specs.Station.{Ends, station_state}
use Rattle.serial_run.specs.inner.Hops.{AllHaveEnds, all_ends}
use Rattle.serial_run.proofs.Able.{all_can}
use Rattle.serial_run.proofs.Stepped.{zip_ends, zip_lines, round_runs, round_within, round_going}
use Rattle.serial_run.proofs.Placed.{all_have_ends}
use Rattle.serial_run.proofs.finishing.round.Goals as goal

pub step_all-requires-clause-can : goal.step_all-requires-clause-can
step_all-requires-clause-can c =
    all_can c.args.world.now c.args.schedule.now c.args.hops.now c.args.slot c.args.stations.now c.requires.going

pub carry_all-requires-clause-ends : goal.carry_all-requires-clause-ends
carry_all-requires-clause-ends c =
    let going = c.requires.going in
    let Have = λ (ends : List Ends). AllHaveEnds ends c.args.hops.now in
    subst Have
    (sym (zip_ends c.args.world.now c.args.schedule.now c.args.slot c.args.stations.now c.step_all.new.stations
    c.step_all.ensures))
    (all_have_ends (all_ends (map station_state c.args.stations.now)) c.args.world.now.platform.links c.args.hops.now
    going.places going.as_many)

pub carry_all-requires-clause-line : goal.carry_all-requires-clause-line
carry_all-requires-clause-line c = λ known.
    zip_lines c.args.world.now c.args.schedule.now c.args.slot c.args.hops.now c.args.stations.now
    c.step_all.new.stations
    c.step_all.ensures c.requires.going.carried

pub returns-clause-going : goal.returns-clause-going
returns-clause-going c =
    round_going c.args.world.now c.args.schedule.now c.args.hops.now c.args.slot c.args.stations.now
    c.step_all.new.stations
    c.carry_all.new.stations c.step_all.ensures c.carry_all.ensures.seen c.requires.going c.carry_all.ensures.carried

pub returns-clause-run : goal.returns-clause-run
returns-clause-run c =
    round_runs c.args.world.now c.args.schedule.now c.args.hops.now c.args.slot c.args.stations.now
    c.step_all.new.stations
    c.carry_all.new.stations c.step_all.ensures c.carry_all.ensures.seen

pub returns-clause-within : goal.returns-clause-within
returns-clause-within c =
    round_within c.args.world.now c.args.schedule.now c.args.hops.now c.args.slot c.args.stations.now
    c.step_all.new.stations
    c.carry_all.new.stations c.step_all.ensures c.carry_all.ensures.seen
