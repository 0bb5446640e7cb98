use Rattle.std.proofs.Common.{◌≡◌, take}
use Rattle.bundle_model.specs.Sets.{slot_set}
use Rattle.bundle_model.proofs.part.slots.Given as goal

abbrev pub invariant-loop-slot : goal.invariant-loop-slot
invariant-loop-slot l = l.set ≡ slot_set (take l.slot-index l.raw)
