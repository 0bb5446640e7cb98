use Rattle.std.proofs.Common.{rules}
use Rattle.report_text.specs.State.{carried_line}
use Rattle.report_text.proofs.Numbers.{prints_number}
use Rattle.report_text.proofs.state.put_carried.Goals as goal

pub loop-out-preserved : goal.loop-out-preserved
loop-out-preserved g c = (
  prints_number (carried_line c.args.platform.now c.args.tile.now) c.loop-out.out c.loop-out.invariant.0 c.put_output.ensures.printed,
  search rules,
)
