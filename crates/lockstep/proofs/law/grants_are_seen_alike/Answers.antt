use Rattle.lockstep.proofs.Seen.{grants_are_seen_alike}
use Rattle.lockstep.proofs.law.grants_are_seen_alike.Goals as goal

pub returns : goal.returns
returns c = grants_are_seen_alike
