use Rattle.tile_workers.proofs.Passes.{IsPassSoFar}
use Rattle.tile_workers.proofs.passing.pass_all.Given as goal

abbrev pub invariant-loop-station : goal.invariant-loop-station
invariant-loop-station g l = IsPassSoFar l.world l.schedule l.until l.moved l.station-index l.fn.stations l.stations
