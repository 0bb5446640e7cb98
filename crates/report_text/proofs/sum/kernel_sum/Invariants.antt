use Rattle.std.proofs.Common.{◌≡◌, ◌%◌, ◌^◌, take, sum_by}
use Rattle.report_text.specs.State.{context_words, total}
use Rattle.report_text.proofs.sum.kernel_sum.Given as goal

abbrev pub invariant-loop-frame : goal.invariant-loop-frame
invariant-loop-frame l = l.sum ≡ sum_by (λ frame. total (context_words frame)) (take l.frame l.kernel.frames) % 2 ^ 32
