use Rattle.soc_top.proofs.Concluding.{alone_ended}
use Rattle.soc_top.proofs.alone.end.Goals as goal

pub returns-in-Ok : goal.returns-in-Ok
returns-in-Ok g c =
    alone_ended (g.F.Files.holds c.args.files.now) (g.F.Files.faults c.args.files.now)
    (g.F.Files.faults c.load.new.files) (g.S.Sink.written c.args.sink.now) (g.S.Sink.written c.run.new.sink)
    (g.S.Sink.faults c.args.sink.now) (g.S.Sink.faults c.run.new.sink) c.args.request.now c.in-Ok.inputs c.run.result
    c.in-Ok.ensures.read c.run.ensures.concludes
