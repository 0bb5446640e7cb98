use Rattle.tile_core.specs.Fit.{IsUnderway}
use Rattle.tile_core.proofs.tests.stations.tried.Given as goal

abbrev pub invariant-loop-done : goal.invariant-loop-done
invariant-loop-done l = IsUnderway l.world l.schedule l.station.tile
