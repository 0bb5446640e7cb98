use Rattle.std.proofs.Common.{◌≡◌, ◌%◌, ◌^◌, take}
use Rattle.report_text.specs.State.{total}
use Rattle.report_text.proofs.sum.words_sum.Given as goal

abbrev pub invariant-loop-word : goal.invariant-loop-word
invariant-loop-word l = l.sum ≡ total (take l.word-index l.words) % 2 ^ 32
