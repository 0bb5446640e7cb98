use Rattle.event_core.proofs.Machine.{links_follow}
use Rattle.event_core.proofs.law.links_follow.Goals as goal

pub returns : goal.returns
returns c = links_follow
