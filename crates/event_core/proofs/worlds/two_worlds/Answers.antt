use Rattle.event_core.proofs.Standing.{logs_are_alone}
use Rattle.event_core.proofs.Inherited.{two_worlds}
use Rattle.event_core.proofs.worlds.two_worlds.Goals as goal

pub returns : goal.returns
returns c = two_worlds logs_are_alone
