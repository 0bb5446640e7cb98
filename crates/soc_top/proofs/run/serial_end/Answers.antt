use Rattle.vep_manager.specs.Legal.{IsRoundRobin}
use Rattle.soc_top.proofs.Concluding.{run_ended}
use Rattle.soc_top.proofs.run.serial_end.Goals as goal

pub returns-in-Ok : goal.returns-in-Ok
returns-in-Ok g c =
    run_ended (g.F.Files.holds c.args.files.now) (g.F.Files.faults c.args.files.now)
    (g.F.Files.faults c.read_setup.new.files) (g.S.Sink.written c.args.sink.now)
    (g.S.Sink.written c.serial_report.new.sink) (g.S.Sink.faults c.args.sink.now)
    (g.S.Sink.faults c.serial_report.new.sink)
    IsRoundRobin c.args.request.now c.in-Ok.setup c.serial_report.result c.in-Ok.ensures.read
    c.serial_report.ensures.concludes
