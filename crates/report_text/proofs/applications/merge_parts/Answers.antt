use Rattle.std.proofs.Common.{rules, arith}
use Rattle.alone_model.proofs.Laws.{merged_more}
use Rattle.report_text.specs.inner.Logs.{rows_on}
use Rattle.report_text.proofs.RowCounts.{room_for_more}
use Rattle.report_text.proofs.applications.merge_parts.Goals as goal

pub merge_part-requires-clause-room : goal.merge_part-requires-clause-room
merge_part-requires-clause-room c =
    omega (
      arith,
      room_for_more (rows_on c.args.stations.now c.args.label) c.args.parts.now c.loop-part.part-index
          c.part-item.result c.loop-part.rows.items (omega arith) c.part-item.is c.loop-part.invariant.0,
      c.requires,
      c.loop-part.invariant.2,
    )

pub loop-part-preserved : goal.loop-part-preserved
loop-part-preserved c = (
  merged_more (rows_on c.args.stations.now c.args.label) c.args.parts.now c.loop-part.part-index c.part-item.result
      c.loop-part.rows.items c.merge_part.new.rows.items (omega arith) c.part-item.is c.loop-part.invariant.0
      c.merge_part.ensures.rows,
  c.merge_part.ensures.order,
  search rules,
)
