use Rattle.std.proofs.Common.{◌+◌, ◌*◌, vec_len}
use Rattle.live_run.proofs.working.+fn-work_and_serve-scope+work_and_serve.Given as goal

abbrev pub decreases-scope : goal.decreases-scope
decreases-scope g l = 2 * vec_len l.crew + 1

abbrev pub decreases-work_and_serve : goal.decreases-work_and_serve
decreases-work_and_serve g l = 2 * vec_len l.crew
