use Rattle.alone_model.specs.App.{alone_at}
use Rattle.alone_model.specs.inner.Told.{app_of}
use Rattle.alone_model.proofs.Ended.{traced_so}
use Rattle.alone_model.proofs.engine.alone.Goals as goal

-- what the application tells is what it would tell after all of its slots
pub returns : goal.returns
returns c =
    traced_so c.trace_of.result (app_of c.run.new.self) (alone_at c.args.platform.now c.args.bundle.now c.args.start c.args.end)
    c.in_ok-run.ensures c.trace_of.ensures
