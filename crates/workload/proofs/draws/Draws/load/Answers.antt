use Rattle.workload.proofs.DrawLemmas.{drawn_first}
use Rattle.workload.proofs.draws.Draws.load.Goals as goal
use Rattle.soc_base.specs.Steps.{after_steps}

pub returns-clause-drawn : goal.returns-clause-drawn
unfolding after_steps
returns-clause-drawn c = cc (drawn_first c.args.self.now.state)
