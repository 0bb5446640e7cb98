use Rattle.std.proofs.Common.{◌+◌, ◌-◌, ◌*◌}
use Rattle.live_run.proofs.threads.+fn-serve_from-scope+serve_from.Given as goal

abbrev pub decreases-scope : goal.decreases-scope
decreases-scope g l = 2 * (l.last + 1 - l.session) - 1

abbrev pub decreases-serve_from : goal.decreases-serve_from
decreases-serve_from g l = 2 * (l.last + 1 - l.session)
