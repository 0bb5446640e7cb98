use Rattle.std.proofs.Common.{Some}
use Rattle.bundle_file.proofs.reading.read_bundle.Goals as goal

pub returns-in-Ok-clause-rule : goal.returns-in-Ok-clause-rule
returns-in-Ok-clause-rule c = λ r e. (Some _, c.in-Ok.ensures.value, c.judge.ensures.rule r e)
