use Rattle.std.proofs.Common.{◌≡◌, ◌++◌, take}
use Rattle.std.specs.List.{flat_map}
use Rattle.bundle_model.specs.Resources.{part_resources}
use Rattle.bundle_model.proofs.resource.add_parts.Given as goal

abbrev pub invariant-loop-part : goal.invariant-loop-part
invariant-loop-part l = l.list.items ≡ l.fn.list.items ++ flat_map part_resources (take l.part-index l.parts)
