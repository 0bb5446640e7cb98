use Rattle.std.proofs.Common.{◌≡◌, map, take}
use Rattle.bundle_model.specs.Bundle.{part_of}
use Rattle.bundle_model.proofs.part.parts_of.Given as goal

abbrev pub invariant-loop-one : goal.invariant-loop-one
invariant-loop-one l = l.parts.items ≡ map part_of (take l.one-index l.raw)
