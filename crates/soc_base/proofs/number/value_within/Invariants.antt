use Rattle.std.proofs.Common.{◌≡◌, ◌≤◌, take}
use Rattle.soc_base.specs.Text.{value_of}
use Rattle.soc_base.proofs.number.value_within.Given as goal

abbrev pub invariant-loop-digit : goal.invariant-loop-digit
invariant-loop-digit l = (l.value ≡ value_of (take l.digit-index l.digits)) × (l.value ≤ l.limit)
