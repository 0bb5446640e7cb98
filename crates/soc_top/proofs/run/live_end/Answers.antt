use Rattle.soc_top.specs.Run.{IsHistoryBy}
use Rattle.soc_top.proofs.Concluding.{run_ended}
use Rattle.soc_top.proofs.run.live_end.Goals as goal

pub returns-in-Ok : goal.returns-in-Ok
returns-in-Ok g c =
    run_ended (g.F.Files.holds c.args.files.now) (g.F.Files.faults c.args.files.now)
    (g.F.Files.faults c.read_setup.new.files) (g.S.Sink.written c.args.sink.now)
    (g.S.Sink.written c.live_report.new.sink) (g.S.Sink.faults c.args.sink.now) (g.S.Sink.faults c.live_report.new.sink)
    (IsHistoryBy c.args.request.now.workers) c.args.request.now c.in-Ok.setup c.live_report.result
    c.in-Ok.ensures.read c.live_report.ensures.concludes
