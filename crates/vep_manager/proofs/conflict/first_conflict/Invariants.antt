use Rattle.std.proofs.Common.{◌≡◌, drop}
use Rattle.vep_manager.specs.Replies.{first_conflict}
use Rattle.vep_manager.proofs.conflict.first_conflict.Given as goal

abbrev pub invariant-loop-resource : goal.invariant-loop-resource
invariant-loop-resource l =
    first_conflict l.owners.setup.world l.owners.grants l.start (drop l.resource-index l.resources)
    ≡ first_conflict l.owners.setup.world l.owners.grants l.start l.resources
