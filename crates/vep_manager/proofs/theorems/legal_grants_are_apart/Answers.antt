use Rattle.vep_manager.proofs.States.{held}
use Rattle.vep_manager.proofs.Settled.{legal_apart, legal_granted}
use Rattle.vep_manager.proofs.theorems.legal_grants_are_apart.Goals as goal

pub returns-clause-apart : goal.returns-clause-apart
returns-clause-apart c = legal_apart c.args._setup.now c.requires

pub returns-clause-granted : goal.returns-clause-granted
returns-clause-granted c = λ limit history. legal_granted (held c.args._setup.now history) limit
