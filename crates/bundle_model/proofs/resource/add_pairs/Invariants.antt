use Rattle.std.proofs.Common.{◌≡◌, ◌++◌, take}
use Rattle.std.specs.List.{flat_map}
use Rattle.bundle_model.specs.Resources.{pair_resources}
use Rattle.bundle_model.proofs.resource.add_pairs.Given as goal

abbrev pub invariant-loop-pair : goal.invariant-loop-pair
invariant-loop-pair l = l.list.items ≡ l.fn.list.items ++ flat_map (pair_resources l.platform.table_slots) (take l.pair-index l.pairs)
