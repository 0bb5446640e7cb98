use Rattle.report_text.proofs.Alone.{holds_alone}
use Rattle.report_text.proofs.summary.write_summary.Goals as goal

pub put_summary-requires : goal.put_summary-requires
put_summary-requires g c =
    holds_alone c.args.setup.now c.args.end.now c.requires.sound c.requires.legal c.requires.in_step
