use Rattle.soc_top.proofs.Concluding.{check_ended}
use Rattle.soc_top.proofs.check.end.Goals as goal

pub returns-in-Ok : goal.returns-in-Ok
returns-in-Ok g c =
    let (platform, read) = c.in-Ok.ensures.read in
    check_ended (g.F.Files.holds c.args.files.now) (g.F.Files.faults c.args.files.now)
    (g.F.Files.faults c.read_checked.new.files) (g.S.Sink.written c.args.sink.now)
    (g.S.Sink.written c.write_verdicts.new.sink) (g.S.Sink.faults c.args.sink.now)
    (g.S.Sink.faults c.write_verdicts.new.sink) c.args.request.now platform c.in-Ok.catalog.items
    c.write_verdicts.result read (rw c.as_slice.ensures.value at c.write_verdicts.ensures.concludes)
