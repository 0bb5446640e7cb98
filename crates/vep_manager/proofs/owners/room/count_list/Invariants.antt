use Rattle.std.proofs.Common.{◌≡◌, ℕ, ◌+◌, ◌<◌, length, get_or, take}
use Rattle.vep_manager.specs.inner.Owned.{count_in}
use Rattle.vep_manager.proofs.owners.room.count_list.Given as goal

abbrev pub invariant-loop-resource : goal.invariant-loop-resource
invariant-loop-resource l =
    (length l.counts ≡ length l.fn.counts) × ((n : ℕ) → n < length l.fn.counts → get_or l.counts n 0
    ≡ get_or l.fn.counts n 0 + count_in l.tiles (length l.fn.counts) n (take l.resource-index l.list))
