use Rattle.std.proofs.Common.{min, ◌∙◌, ap, arith}
use Rattle.vep_manager.specs.History.{promise_of}
use Rattle.vep_manager.specs.inner.Keeping.{counted}
use Rattle.vep_manager.proofs.Growth.{horizon_more}
use Rattle.vep_manager.proofs.horizon.horizon.Goals as goal

pub loop-session-preserved : goal.loop-session-preserved
loop-session-preserved c =
    c.min-least.ensures ∙ ap (min c.loop-session.least) (c.promise.ensures
    ∙ ap (promise_of c.args.setup.now c.loop-session.session) c.with_next-done.ensures)
    ∙ horizon_more c.args.setup.now (counted c.args.next c.args.history.now) c.loop-session.session
    c.loop-session.least (omega arith) c.loop-session.invariant
