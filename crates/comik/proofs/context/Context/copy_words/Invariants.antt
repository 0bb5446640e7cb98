use Rattle.std.proofs.Common.{◌≡◌, ◌-◌}
use Rattle.comik.specs.Context.{copied_words}
use Rattle.comik.proofs.context.Context.copy_words.Given as goal

abbrev pub invariant-loop-n : goal.invariant-loop-n
invariant-loop-n l = l.self ≡ copied_words l.fn.self l.from l.first (l.n - l.first)
