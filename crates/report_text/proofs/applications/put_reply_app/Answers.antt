use Rattle.std.proofs.Common.{[], ◌∷◌, append-nil, sym}
use Rattle.report_text.proofs.AppTexts.{one_app}
use Rattle.report_text.proofs.Prints.{prints_same}
use Rattle.report_text.proofs.applications.put_reply_app.Goals as goal

pub returns-in-Some-clause-printed : goal.returns-in-Some-clause-printed
returns-in-Some-clause-printed g c =
    let (text, app, prints) = c.put_app.ensures.printed in (
      text ∷ [],
      one_app c.args.setup.now _ c.in-Some.grant text (rw (← c.reply_grant.ensures) c.in-Some.is) app,
      prints_same text _ _ _ _ _ _ _ (sym (append-nil text)) prints,
    )
