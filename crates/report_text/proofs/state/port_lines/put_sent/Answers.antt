use Rattle.std.proofs.Common.{rules, codes, arith}
use Rattle.report_text.specs.State.{queued_line}
use Rattle.report_text.proofs.Numbers.{prints_found}
use Rattle.report_text.proofs.state.port_lines.put_sent.Goals as goal

pub loop-place-preserved : goal.loop-place-preserved
loop-place-preserved g c = (
  prints_found (queued_line (codes "sendword") c.args.tile c.args.number) c.args.port.now.port.send c.loop-place.place
      (omega arith) c.loop-place.invariant.0 (rw c.send_word.ensures at c.put_queued.ensures.printed),
  search rules,
)
