use Rattle.std.proofs.Common.{◌≡◌, ◌*◌, ◌^◌, ◌≤◌, length, take, vec_len, vec_capacity}
use Rattle.vep_manager.specs.inner.Rows.{AreHeads}
use Rattle.vep_manager.proofs.owners.rows.heads.Given as goal

abbrev pub invariant-loop-room : goal.invariant-loop-room
invariant-loop-room l =
    AreHeads (take l.room-index l.rooms) l.begin l.heads.items × (vec_len l.heads ≡ l.room-index)
    × (length l.rooms ≤ vec_capacity l.heads) × (l.begin ≤ l.room-index * 2 ^ 32)
