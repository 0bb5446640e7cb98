use Rattle.serial_run.specs.Run.{CanFinish}
use Rattle.serial_run.proofs.tests.try_tiles.Given as goal

abbrev pub invariant-loop-tile : goal.invariant-loop-tile
invariant-loop-tile l = CanFinish l.world l.schedule l.schedule.horizon l.stations
