use Rattle.event_core.proofs.Standing.{grants_stand}
use Rattle.event_core.proofs.Machine.{links_follow}
use Rattle.event_core.proofs.Inherited.{cores_stand, core_links_follow}
use Rattle.event_core.proofs.worlds.cores_stand.Goals as goal

pub returns-clause-grants : goal.returns-clause-grants
returns-clause-grants c = cores_stand grants_stand c.args._setup.now c.requires

pub returns-clause-links : goal.returns-clause-links
returns-clause-links c = core_links_follow links_follow c.args._setup.now c.requires
