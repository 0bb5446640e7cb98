use Rattle.std.proofs.Common.{◌≡◌, length}
use Rattle.vep_manager.specs.inner.Owned.{row_count}
use Rattle.vep_manager.proofs.Holding.{AreCounted}
use Rattle.vep_manager.proofs.owners.room.rooms.Given as goal

abbrev pub invariant-loop-load : goal.invariant-loop-load
invariant-loop-load l =
    (length l.counts.items ≡ row_count l.setup.world.platform)
    × AreCounted l.setup.world l.load-items l.load-index l.counts.items
