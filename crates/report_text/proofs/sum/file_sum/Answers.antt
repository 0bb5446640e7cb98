use Rattle.std.proofs.Common.{ℕ, ◌%◌, ◌^◌, List, ap, ◌∙◌}
use Rattle.comik.specs.Kernel.{KernelState}
use Rattle.report_text.specs.State.{context_words, total}
use Rattle.report_text.proofs.sum.file_sum.Goals as goal

pub returns : goal.returns
returns c =
    c.words_sum.ensures
    ∙ ap (λ (words : List ℕ). total words % 2 ^ 32) c.file_words-words.ensures
    ∙ ap (λ (kernel : KernelState). total (context_words kernel.file) % 2 ^ 32) c.kernel.ensures
