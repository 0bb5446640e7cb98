use Rattle.std.proofs.Common.{ℕ, ◌%◌, ◌^◌, List, ap, ◌∙◌}
use Rattle.report_text.specs.State.{total}
use Rattle.report_text.proofs.sum.frame_sum.Goals as goal

pub returns : goal.returns
returns c = c.words_sum.ensures ∙ ap (λ (words : List ℕ). total words % 2 ^ 32) c.frame_words-words.ensures
