use Rattle.std.proofs.Common.{All}
use Rattle.tile_core.specs.Fit.{IsUnderway}
use Rattle.tile_core.proofs.tests.stations.check_held_after.Given as goal

abbrev pub invariant-loop-rounds : goal.invariant-loop-rounds
invariant-loop-rounds g l = All (λ station. IsUnderway l.world l.built.schedule station.tile) l.built.stations.items
