use Rattle.lockstep.proofs.Joined.{one_solution, one_passage}
use Rattle.lockstep.proofs.law.one_solution.Goals as goal

pub returns : goal.returns
returns g c = record { tile = one_solution; link = one_passage }
