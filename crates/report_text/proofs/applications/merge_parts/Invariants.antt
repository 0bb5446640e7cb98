use Rattle.std.proofs.Common.{◌≡◌, take, vec_capacity}
use Rattle.std.specs.List.{flat_map}
use Rattle.std.specs.List.Sorted.{IsSorted, IsPermutation}
use Rattle.trace_log.specs.Rows.{row_cmp}
use Rattle.report_text.specs.inner.Logs.{rows_on}
use Rattle.report_text.proofs.applications.merge_parts.Given as goal

abbrev pub invariant-loop-part : goal.invariant-loop-part
invariant-loop-part l =
    IsPermutation (flat_map (rows_on l.stations l.label) (take l.part-index l.parts)) l.rows.items
    × IsSorted row_cmp l.rows.items × (vec_capacity l.rows ≡ vec_capacity l.fn.rows)
