use Rattle.std.proofs.Common.{take}
use Rattle.vep_manager.specs.inner.Owned.{HoldsMore}
use Rattle.vep_manager.proofs.owners.hold.Given as goal

abbrev pub invariant-loop-resource : goal.invariant-loop-resource
invariant-loop-resource l = HoldsMore l.tiles (take l.resource-index l.list) l.place l.fn.rows l.rows
