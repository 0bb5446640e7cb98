use Rattle.std.proofs.Common.{rules}
use Rattle.report_text.specs.State.{table_text}
use Rattle.report_text.proofs.Numbers.{prints_number}
use Rattle.report_text.proofs.state.table_lines.put_outs.Goals as goal

pub loop-row-preserved : goal.loop-row-preserved
loop-row-preserved g c = (
  prints_number (table_text c.args.tile.now 1) c.loop-row.row c.loop-row.invariant.0 c.put_table.ensures.printed,
  search rules,
)
