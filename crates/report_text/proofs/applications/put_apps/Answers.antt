use Rattle.std.proofs.Common.{rules, arith, [], ◌++◌, sym}
use Rattle.report_text.specs.inner.Logs.{HoldsAlone}
use Rattle.report_text.proofs.AppTexts.{concat-append, granted_at, apps_none, apps_more, apps_all}
use Rattle.report_text.proofs.Prints.{prints_none, prints_then, prints_same}
use Rattle.report_text.proofs.applications.put_apps.Goals as goal

pub put_reply_app-requires-clause-alone : goal.put_reply_app-requires-clause-alone
put_reply_app-requires-clause-alone g c =
    granted_at (HoldsAlone c.args.setup.now c.args.stations.now) c.args.setup.now c.args.history.now
    c.loop-entry.entry-index _ (omega arith) c.requires.alone

pub loop-entry-init : goal.loop-entry-init
loop-entry-init g c =
    (([], apps_none c.args.setup.now c.args.history.now, prints_none _ _ _), search rules, search rules)

pub loop-entry-preserved : goal.loop-entry-preserved
loop-entry-preserved g c =
    let (texts, apps, prints) = c.loop-entry.invariant.0 in
    let (more, added, next) = c.put_reply_app.ensures.printed in (
      (
        texts ++ more,
        apps_more c.args.setup.now c.args.history.now c.loop-entry.entry-index _ texts more (omega arith) apps added,
        prints_same _ _ _ _ _ _ _ _ (sym (concat-append texts more)) (prints_then _ _ _ _ _ _ _ _ _ _ _ prints next),
      ),
      search rules,
      search rules,
    )

pub returns-clause-printed : goal.returns-clause-printed
returns-clause-printed g c =
    let (texts, apps, prints) = c.loop-entry.invariant.0 in
    (texts, apps_all c.args.setup.now c.args.history.now c.loop-entry.entry-index texts (omega arith) apps, prints)
