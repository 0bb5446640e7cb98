use Rattle.std.proofs.Common.{rules, arith}
use Rattle.comik.specs.Context.{word_at}
use Rattle.comik.specs.Kernel.{frame_at}
use Rattle.report_text.proofs.Numbers.{filled_more, filled_all}
use Rattle.report_text.proofs.contexts.frame_words.Goals as goal

pub loop-n-preserved : goal.loop-n-preserved
loop-n-preserved c = (
  filled_more (word_at (frame_at c.args.kernel.now c.args.frame)) c.loop-n.words c.loop-n.n _ _ (omega arith) (omega arith) c.frame_word.ensures c.loop-n.invariant.0,
  search rules,
)

pub returns : goal.returns
returns c = filled_all (word_at (frame_at c.args.kernel.now c.args.frame)) c.loop-n.words c.loop-n.n c.loop-n.invariant.1 (omega arith) c.loop-n.invariant.0
