use Rattle.std.proofs.Common.{rules}
use Rattle.report_text.specs.inner.Places.{place_text}
use Rattle.report_text.proofs.Numbers.{prints_number}
use Rattle.report_text.proofs.state.table_lines.put_table.Goals as goal

pub loop-slot-preserved : goal.loop-slot-preserved
loop-slot-preserved g c = (
  prints_number (place_text c.args.tile.now c.args.table c.args.row) c.loop-slot.slot c.loop-slot.invariant.0 c.put_place.ensures.printed,
  search rules,
)
