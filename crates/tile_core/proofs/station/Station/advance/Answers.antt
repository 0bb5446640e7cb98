use Rattle.std.proofs.Common.{refl}
use Rattle.tile_core.specs.Station.{station_state}
use Rattle.tile_core.proofs.OneMore.{advance_keeps, run_advances}
use Rattle.tile_core.proofs.station.Station.advance.Goals as goal

pub returns-clause-ends : goal.returns-clause-ends
returns-clause-ends c =
    advance_keeps c.args.world.now c.args.schedule.now c.args.self.now.ins.items (station_state c.args.self.now)
    (station_state c.pass_slot.new.self) c.requires.ready.underway refl c.pass_slot.ensures.slot

pub returns-clause-run : goal.returns-clause-run
returns-clause-run c = λ loads run.
    run_advances c.args.world.now loads c.args.schedule.now c.args.self.now.ins.items (station_state c.args.self.now)
    (station_state c.pass_slot.new.self) c.requires.ready.underway refl c.pass_slot.ensures.slot run
