use Rattle.std.proofs.Common.{◌≡◌, map, take}
use Rattle.std.specs.Prelude.{nat_abs}
use Rattle.bundle_model.proofs.pair.bytes.Given as goal

abbrev pub invariant-loop-number : goal.invariant-loop-number
invariant-loop-number l = l.bytes.items ≡ map nat_abs (take l.number-index l.numbers)
