use Rattle.std.proofs.Common.{◌≡◌, ◌≤◌, length, map, take, vec_len, vec_capacity}
use Rattle.vep_manager.specs.inner.Claims.{claimed_by}
use Rattle.vep_manager.proofs.claims.listed.Given as goal

abbrev pub invariant-loop-named : goal.invariant-loop-named
invariant-loop-named l =
    (l.lists.items ≡ map (claimed_by l.world.platform) (take l.named-index l.named-items))
    × (vec_len l.lists ≡ l.named-index) × (length l.named-items ≤ vec_capacity l.lists)
