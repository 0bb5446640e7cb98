use Rattle.std.proofs.Common.{◌≡◌, map, take}
use Rattle.command_words.proofs.values.copies_of.Given as goal

abbrev pub invariant-loop-word : goal.invariant-loop-word
invariant-loop-word l = l.copies ≡ map (λ s. s.now) (take l.word-index l.words)
