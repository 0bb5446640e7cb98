use Rattle.tile_core.proofs.Laws.{fresh_begins, slot_goes_on}
use Rattle.event_core.proofs.Inherited.{cores_step, cores_fit}
use Rattle.event_core.proofs.worlds.cores_are_in_step.Goals as goal

pub returns-clause-step : goal.returns-clause-step
returns-clause-step c = cores_step c.args._setup.now c.requires

pub returns-clause-fits : goal.returns-clause-fits
returns-clause-fits c = cores_fit fresh_begins slot_goes_on c.args._setup.now c.requires
