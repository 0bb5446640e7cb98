-- The order of rows.
use Rattle.std.specs.Ordering.{nat_cmp, on, then_cmp}
use Rattle.std.specs.declared.cmp.Ordering.{Ordering}
use Rattle.trace_log.specs.declared.row.TraceRow.{TraceRow}
use Rattle.trace_log.specs.Kinds.{phase_of}

-- rows go by cycle, then tile, then phase. One application has at most one row of each; were there
-- more, they would go by value, so that a list in order is determined by its rows.
abbrev pub row_cmp : TraceRow → TraceRow → Ordering
row_cmp =
    then_cmp (on (λ row. row.cycle) nat_cmp)
    (then_cmp (on (λ row. row.tile) nat_cmp)
    (then_cmp (on (λ row. phase_of row.kind) nat_cmp) (on (λ row. row.value) nat_cmp)))
