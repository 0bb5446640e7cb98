use Rattle.std.proofs.Common.{◌≡◌, take}
use Rattle.soc_base.specs.Twins.{has_twin}
use Rattle.bundle_model.specs.inner.Places.{shares_place, AreMarks}
use Rattle.bundle_model.proofs.doubled.holds_twice.Given as goal

abbrev pub invariant-loop-resource : goal.invariant-loop-resource
invariant-loop-resource l = record {
  marks : AreMarks l.marks.items (take l.resource-index l.list);
  found : l.found ≡ has_twin shares_place (take l.resource-index l.list);
}
