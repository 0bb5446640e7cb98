use Rattle.std.proofs.Common.{refl}
use Rattle.report_text.specs.Report.{last_tiles, report_text}
use Rattle.report_text.proofs.Prints.{prints_then}
use Rattle.report_text.proofs.reporter.put_all.Goals as goal

pub returns-clause-printed : goal.returns-clause-printed
unfolding report_text
returns-clause-printed g c =
    let (apps, are, prints) = c.put_apps.ensures.printed in
    let before = prints_then _ _ _ _ _ _ _ _ _ _ _ c.put_head.ensures.printed
    (rw c.as_slice-history.ensures at c.put_history.ensures.printed) in
    let after = prints_then _ _ _ _ _ _ _ _ _ _ _ before prints in
    let sum = prints_then _ _ _ _ _ _ _ _ _ _ _ after
    (rw (c.as_slice-stations.ensures, c.requires.in_step) at c.put_sum.ensures.printed) in
    let state = prints_then _ _ _ _ _ _ _ _ _ _ _ sum
    (rw (c.as_slice-stations.ensures, c.requires.in_step) at c.put_state_if.ensures.printed) in (
      report_text c.args.setup.now c.args.end.now.history c.args.state apps
          (last_tiles c.args.setup.now c.args.end.now.history),
      record { apps = apps; are_apps = rw (← c.as_slice-history.ensures) are; is_text = refl },
      prints_then _ _ _ _ _ _ _ _ _ _ _ state c.put_end.ensures.printed,
    )
