use Rattle.lockstep.proofs.Stays.{lockstep_stays, run_stays}
use Rattle.lockstep.proofs.law.done_stays.Goals as goal

pub returns : goal.returns
returns g c = record { machine = lockstep_stays; tile = run_stays }
