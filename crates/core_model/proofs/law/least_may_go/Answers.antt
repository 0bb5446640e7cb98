use Rattle.core_model.specs.Core.{core_after}
use Rattle.core_model.proofs.Events.{core_in_order}
use Rattle.core_model.proofs.Least.{least_may_go, none_is_ready}
use Rattle.core_model.proofs.law.least_may_go.Goals as goal

pub returns-clause-enabled : goal.returns-clause-enabled
returns-clause-enabled g c = λ hardware events paced.
    let setup = c.args._setup.now in
    least_may_go hardware setup (core_after hardware setup events) (core_in_order hardware setup c.requires paced events)

pub returns-clause-none : goal.returns-clause-none
returns-clause-none g c = λ hardware events paced.
    none_is_ready hardware c.args._setup.now (core_after hardware c.args._setup.now events)
