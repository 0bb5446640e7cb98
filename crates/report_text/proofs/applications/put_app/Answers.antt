use Rattle.report_text.proofs.AppTexts.{app_text_of}
use Rattle.report_text.proofs.applications.put_app.Goals as goal

pub returns-clause-printed : goal.returns-clause-printed
returns-clause-printed g c =
    let alone = c.requires.alone in (
      _,
      app_text_of c.args.setup.now c.args.stations.now c.args.grant.now c.parts_of.result.now
          c.put_parts_app.new.rows.items alone (c.parts_of.ensures alone.bundle alone.is_bundle)
          c.put_parts_app.ensures.rows c.put_parts_app.ensures.order,
      c.put_parts_app.ensures.printed,
    )
