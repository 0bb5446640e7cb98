use Rattle.std.proofs.Common.{◌≡◌, ◌++◌, take}
use Rattle.std.specs.List.{flat_map}
use Rattle.bundle_model.specs.Resources.{slot_claims}
use Rattle.bundle_model.proofs.claims.add_channel.Given as goal

abbrev pub invariant-loop-slot : goal.invariant-loop-slot
invariant-loop-slot l = l.list.items ≡ l.fn.list.items ++ flat_map (slot_claims l.platform.table_slots l.from l.to l.path) (take l.slot-index l.channel.slots)
