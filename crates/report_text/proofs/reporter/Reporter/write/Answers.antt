use Rattle.report_text.proofs.Alone.{holds_alone}
use Rattle.report_text.proofs.Made.{are_made}
use Rattle.report_text.proofs.reporter.Reporter.write.Goals as goal

pub put_all-requires-clause-alone : goal.put_all-requires-clause-alone
put_all-requires-clause-alone g c =
    holds_alone c.args.setup.now c.args.end.now c.requires.sound c.requires.legal c.requires.in_step

pub put_all-requires-clause-made : goal.put_all-requires-clause-made
put_all-requires-clause-made g c =
    are_made c.args.setup.now c.args.end.now c.requires.sound c.requires.legal c.requires.in_step
