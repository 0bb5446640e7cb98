use Rattle.std.proofs.Common.{◌≡◌, ◌++◌, map}
use Rattle.bundle_model.specs.declared.resource.Resource.TheVariants.{Partition}
use Rattle.bundle_model.proofs.Listing.{slots_below}
use Rattle.bundle_model.proofs.resource.add_slots.Given as goal

abbrev pub invariant-loop-slot : goal.invariant-loop-slot
invariant-loop-slot l = l.list.items ≡ l.fn.list.items ++ map (Partition l.part.tile) (slots_below l.part.slots l.slot)
