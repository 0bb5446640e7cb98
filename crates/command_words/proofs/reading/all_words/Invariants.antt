use Rattle.std.proofs.Common.{◌≡◌, map, take}
use Rattle.command_words.proofs.reading.all_words.Given as goal

abbrev pub invariant-loop-n : goal.invariant-loop-n
invariant-loop-n l = map (λ s. s.now) l.all.items ≡ take l.n l.words
