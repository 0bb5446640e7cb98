use Rattle.std.proofs.Common.{◌≡◌, ◌+◌, ◌++◌, take, vec_len, vec_capacity}
use Rattle.trace_log.proofs.order.merge.Given as goal

abbrev pub invariant-loop-row : goal.invariant-loop-row
invariant-loop-row l =
    (l.into.items ≡ l.fn.into.items ++ take l.row-index l.row-items) × (vec_len l.into ≡ vec_len l.fn.into + l.row-index) × (vec_capacity l.into ≡ vec_capacity l.fn.into)
