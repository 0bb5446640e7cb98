use Rattle.std.proofs.Common.{◌≡◌, length, map, take}
use Rattle.std.specs.List.{range_with_len}
use Rattle.comik.specs.Context.{word_at}
use Rattle.report_text.proofs.contexts.file_words.Given as goal

abbrev pub invariant-loop-n : goal.invariant-loop-n
invariant-loop-n l = (take l.n l.words ≡ map (word_at l.kernel.file) (range_with_len 0 l.n)) × (length l.words ≡ 33)
