-- What a trace tells of an application.
use Rattle.std.specs.Prelude.{◌≡◌, List, map}
use Rattle.std.specs.List.{flat_map}
use Rattle.std.specs.List.Sorted.{IsSorted, IsPermutation}
use Rattle.trace_log.specs.declared.row.TraceRow.{TraceRow}
use Rattle.trace_log.specs.Rows.{row_cmp}
use Rattle.alone_model.specs.declared.trace.PartTrace.{PartTrace}
use Rattle.alone_model.specs.declared.trace.AppTrace.{AppTrace}
use Rattle.alone_model.specs.Network.{AppPart}
use Rattle.alone_model.specs.App.{AppState}

-- the rows that the parts kept
abbrev pub kept_rows : AppState → List TraceRow
kept_rows app = flat_map (λ p. p.state.log.rows) app.parts

-- how a part stands, and how many of its rows were cut
abbrev pub part_trace : AppPart → PartTrace
part_trace p = record { tile = p.part.tile; end = p.state.log.end; cut = p.state.log.cut }

-- t is the trace of an application: all rows that were kept, in order of cycle, tile and phase, and each
-- part's end and cut in the order of the file
pub record IsTraceOf (app : AppState) (t : AppTrace) : Type 0 where
  pub rows : IsPermutation (kept_rows app) t.rows
  pub in_order : IsSorted row_cmp t.rows
  pub parts : t.parts ≡ map part_trace app.parts
