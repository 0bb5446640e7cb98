use Rattle.alone_model.proofs.CreditLaw.{credits_balance}
use Rattle.alone_model.proofs.law.credits_balance.Goals as goal

pub returns : goal.returns
returns c = credits_balance
