use Rattle.std.proofs.Common.{All}
use Rattle.tile_core.specs.Fit.{IsUnderway}
use Rattle.tile_core.proofs.tests.stations.check_all_tries.Given as goal

abbrev pub invariant-loop-tile : goal.invariant-loop-tile
invariant-loop-tile g l = All (λ station. IsUnderway l.world l.built.schedule station.tile) l.built.stations.items
