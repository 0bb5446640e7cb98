use Rattle.event_core.proofs.Standing.{grants_stand}
use Rattle.event_core.proofs.law.grants_stand.Goals as goal

pub returns : goal.returns
returns c = grants_stand
