use Rattle.std.proofs.Common.{take}
use Rattle.std.specs.List.{flat_map}
use Rattle.std.specs.List.Sorted.{IsSorted, IsPermutation}
use Rattle.trace_log.specs.Rows.{row_cmp}
use Rattle.alone_model.proofs.engine.merged_rows.Given as goal

abbrev pub invariant-loop-part : goal.invariant-loop-part
invariant-loop-part l =
    IsPermutation (flat_map (λ p. p.state.log.rows) (take l.part-index l.parts)) l.rows.items × IsSorted row_cmp l.rows.items
