use Rattle.std.proofs.Common.{arith}
use Rattle.alone_model.specs.Network.{AppPart}
use Rattle.alone_model.proofs.Merged.{merged_more}
use Rattle.alone_model.proofs.engine.merged_rows.Goals as goal

pub loop-part-preserved : goal.loop-part-preserved
loop-part-preserved c = (
  merged_more (λ (p : AppPart). p.state.log.rows) c.args.parts.now c.loop-part.part-index c.part-item.result c.loop-part.rows.items c.merge.new.into.items (omega arith) c.part-item.is c.loop-part.invariant.0 (rw (← c.reserve.ensures.items, ← c.log-in-loop-part.ensures) c.merge.ensures.rows),
  c.merge.ensures.order,
)
