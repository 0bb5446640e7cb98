use Rattle.tile_core.proofs.OneMore.{try_keeps, run_tries}
use Rattle.tile_core.proofs.station.Station.try_slot.Goals as goal

pub returns-clause-ends : goal.returns-clause-ends
returns-clause-ends c =
    try_keeps c.args.world.now c.args.schedule.now c.args.self.now c.attempt.new.self c.attempt.result c.requires
    c.attempt.ensures.slot

pub returns-clause-run : goal.returns-clause-run
returns-clause-run c = λ loads run.
    run_tries c.args.world.now loads c.args.schedule.now c.args.self.now c.attempt.new.self c.attempt.result c.requires
    c.attempt.ensures.slot run
