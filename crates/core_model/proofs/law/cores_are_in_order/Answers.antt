use Rattle.core_model.proofs.Events.{core_in_order}
use Rattle.core_model.proofs.law.cores_are_in_order.Goals as goal

pub returns : goal.returns
returns g c = λ hardware events paced. core_in_order hardware c.args._setup.now c.requires paced events
