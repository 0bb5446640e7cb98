use Rattle.vep_manager.proofs.Longer.{legal_goes_on}
use Rattle.vep_manager.proofs.theorems.longer_histories_keep_grants.Goals as goal

pub returns : goal.returns
returns c = legal_goes_on c.args._setup.now c.requires
