use Rattle.std.proofs.Common.{arith}
use Rattle.serial_run.proofs.Trying.{one_underway, still_can}
use Rattle.serial_run.proofs.tests.try_tile.Goals as goal

pub try_slot-requires : goal.try_slot-requires
try_slot-requires c =
    one_underway c.args.world.now c.args.schedule.now c.args.schedule.now.horizon c.args.stations.now c.requires
    c.args.tile c.index-stations-tile.result (omega arith)

pub returns-then-tile-stations : goal.returns-then-tile-stations
returns-then-tile-stations c =
    still_can c.args.world.now c.args.schedule.now c.args.stations.now c.args.tile c.index-stations-tile.result
    c.try_slot.new.self c.try_slot.result (omega arith) c.requires c.try_slot.ensures.ends c.try_slot.ensures.run
    c.try_slot.ensures.slot
