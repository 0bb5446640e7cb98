use Rattle.grant_tables.proofs.Looked.{injects_are_read, outputs_are_read, deliveries_are_read}
use Rattle.grant_tables.proofs.law.tables_are_read.Goals as goal

pub returns-clause-injects : goal.returns-clause-injects
returns-clause-injects c = injects_are_read

pub returns-clause-outputs : goal.returns-clause-outputs
returns-clause-outputs c = outputs_are_read

pub returns-clause-deliveries : goal.returns-clause-deliveries
returns-clause-deliveries c = deliveries_are_read
