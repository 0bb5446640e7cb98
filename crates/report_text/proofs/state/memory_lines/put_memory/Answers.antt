use Rattle.std.proofs.Common.{rules}
use Rattle.report_text.specs.State.{memory_line}
use Rattle.report_text.proofs.Numbers.{prints_number}
use Rattle.report_text.proofs.state.memory_lines.put_memory.Goals as goal

pub loop-row-preserved : goal.loop-row-preserved
loop-row-preserved g c = (
  prints_number (memory_line c.args.tile.now) c.loop-row.row c.loop-row.invariant.0 c.put_row.ensures.printed,
  search rules,
)
