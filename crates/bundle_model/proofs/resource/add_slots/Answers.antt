use Rattle.std.proofs.Common.{rules}
use Rattle.bundle_model.proofs.Listing.{partitions_more, partitions_all}
use Rattle.bundle_model.proofs.resource.add_slots.Goals as goal

pub loop-slot-preserved : goal.loop-slot-preserved
loop-slot-preserved c = partitions_more c.args.part.now.tile c.args.part.now.slots c.loop-slot.slot c.args.list.now.items c.loop-slot.list.items _ c.loop-slot.invariant (search rules)

pub returns : goal.returns
returns c = partitions_all c.args.part.now.tile c.args.part.now.slots c.loop-slot.slot c.args.list.now.items c.loop-slot.list.items (search rules) c.loop-slot.invariant
