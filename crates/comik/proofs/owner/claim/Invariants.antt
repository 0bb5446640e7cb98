use Rattle.std.proofs.Common.{◌≡◌}
use Rattle.soc_base.specs.Steps.{after_steps}
use Rattle.comik.specs.Parts.{claimed_slot}
use Rattle.comik.proofs.owner.claim.Given as goal

abbrev pub invariant-loop-slot : goal.invariant-loop-slot
invariant-loop-slot l = l.owners ≡ after_steps (claimed_slot l.slots l.part) 0 l.slot l.fn.owners
