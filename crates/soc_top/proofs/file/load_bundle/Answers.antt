use Rattle.soc_top.proofs.Missing.{long_bundle}
use Rattle.soc_top.proofs.file.load_bundle.Goals as goal

pub returns-in-TooLong-clause-gives : goal.returns-in-TooLong-clause-gives
returns-in-TooLong-clause-gives g c =
    long_bundle (g.F.Files.holds c.args.files.now) (g.F.Files.faults c.args.files.now)
    (g.F.Files.faults c.read_file.new.files) c.args.platform.now c.args.name.now c.in_ok-name.name
    (rw c.in-TooLong.is at c.in_ok-content.ensures.content) c.in_ok-name.ensures
