use Rattle.std.proofs.Common.{◌≡◌, map, take}
use Rattle.bundle_model.specs.Bundle.{pair_of}
use Rattle.bundle_model.proofs.pair.pairs_of.Given as goal

abbrev pub invariant-loop-one : goal.invariant-loop-one
invariant-loop-one l = l.pairs.items ≡ map pair_of (take l.one-index l.raw)
