use Rattle.std.proofs.Common.{All}
use Rattle.tile_core.specs.Fit.{IsUnderway}
use Rattle.tile_core.proofs.tests.stations.check_rounds.Given as goal

abbrev pub invariant-loop-round : goal.invariant-loop-round
invariant-loop-round g l = All (λ station. IsUnderway l.world l.built.schedule station.tile) l.built.stations.items
