use Rattle.std.proofs.Common.{◌-◌, arith}
use Rattle.std.proofs.lemmas.List.Edits.{map_over_more}
use Rattle.alone_model.specs.inner.Stretch.{part_steps}
use Rattle.alone_model.proofs.application.run_each.Goals as goal

pub loop-part-preserved : goal.loop-part-preserved
loop-part-preserved c =
    let run = part_steps c.args.platform.now c.args.start c.args.from (c.args.to - c.args.from) in
    let at = c.loop-part in
    let item = c.part-item in
    rw (c.run.ensures, ← item.is)
    (map_over_more run c.args.parts.now.items at.part-items at.part-index item.result (omega arith) at.invariant item.is)
