use Rattle.std.proofs.Common.{◌≡◌, take, vec_len, vec_capacity}
use Rattle.vep_manager.proofs.manager.Manager.copy_since.Given as goal

abbrev pub invariant-loop-grant : goal.invariant-loop-grant
invariant-loop-grant l =
    (l.into.grants.items ≡ take l.grant-index l.grant-items) × (vec_len l.into.grants ≡ l.grant-index)
    × (vec_capacity l.into.grants ≡ vec_capacity l.fn.into.grants)
