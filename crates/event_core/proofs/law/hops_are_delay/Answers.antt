use Rattle.event_core.proofs.Hops.{hops_are_delay, nothing_else_arrives}
use Rattle.event_core.proofs.law.hops_are_delay.Goals as goal

pub returns-clause-arrives : goal.returns-clause-arrives
returns-clause-arrives c = hops_are_delay

pub returns-clause-alone : goal.returns-clause-alone
returns-clause-alone c = nothing_else_arrives
