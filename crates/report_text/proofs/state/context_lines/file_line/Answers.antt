use Rattle.std.proofs.Common.{ℕ, List, ◌++◌, codes, decimal, ap, ap₂, ◌∙◌}
use Rattle.comik.specs.Kernel.{KernelState}
use Rattle.report_text.specs.Rows.{line_end}
use Rattle.report_text.specs.State.{context_words, file_line, words_text}
use Rattle.report_text.proofs.state.context_lines.file_line.Goals as goal

pub returns : goal.returns
unfolding file_line
returns c =
    c.file_words_line.ensures
    ∙ ap₂ (λ (number : ℕ) (words : List ℕ). codes "file " ++ decimal number ++ words_text words ++ line_end)
    c.number.ensures
    (c.file_words-words.ensures ∙ ap (λ (kernel : KernelState). context_words kernel.file) c.kernel.ensures)
