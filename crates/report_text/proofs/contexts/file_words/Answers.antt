use Rattle.std.proofs.Common.{rules, arith}
use Rattle.comik.specs.Context.{word_at}
use Rattle.report_text.proofs.Numbers.{filled_more}
use Rattle.report_text.proofs.contexts.file_words.Goals as goal

pub loop-n-preserved : goal.loop-n-preserved
loop-n-preserved c = (
  filled_more (word_at c.args.kernel.now.file) c.loop-n.words c.loop-n.n _ _ (omega arith) (omega arith) c.file_word.ensures c.loop-n.invariant.0,
  search rules,
)
