use Rattle.lockstep.proofs.Joined.{tiles_run_alone}
use Rattle.lockstep.proofs.law.tiles_run_alone.Goals as goal

pub returns : goal.returns
returns g c = tiles_run_alone
