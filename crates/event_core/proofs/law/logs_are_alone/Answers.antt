use Rattle.event_core.proofs.Standing.{logs_are_alone}
use Rattle.event_core.proofs.law.logs_are_alone.Goals as goal

pub returns : goal.returns
returns c = logs_are_alone
