use Rattle.std.proofs.Common.{rules}
use Rattle.report_text.specs.State.{frame_line}
use Rattle.report_text.proofs.Numbers.{prints_number}
use Rattle.report_text.proofs.state.context_lines.put_frames.Goals as goal

pub loop-frame-preserved : goal.loop-frame-preserved
loop-frame-preserved g c = (
  prints_number (frame_line c.args.tile.now) c.loop-frame.frame c.loop-frame.invariant.0 c.put_frame.ensures.printed,
  search rules,
)
