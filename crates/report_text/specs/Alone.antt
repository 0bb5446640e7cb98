-- The text of one application alone.
use Rattle.std.specs.Prelude.{ℕ, ◌*◌, List, ◌++◌, codes, decimal}
use Rattle.std.specs.List.{flat_map}
use Rattle.alone_model.specs.declared.trace.AppTrace.{AppTrace}
use Rattle.report_text.specs.Rows.{line_end, row_text, part_text}

-- from where to where something was followed, in cycles
unfoldable pub from_to_text : ℕ → ℕ → List ℕ
from_to_text first last = codes " from " ++ decimal first ++ codes " to " ++ decimal last ++ line_end

-- the rows and parts of a trace
abbrev pub trace_text : AppTrace → List ℕ
trace_text t = flat_map row_text t.rows ++ flat_map part_text t.parts

-- the last line
abbrev pub end_line : List ℕ
end_line = codes "end" ++ line_end

-- the text of a trace from slot `start` to slot `end`, in slots of so many cycles: where the application
-- was followed, as in `alone a.toml from 8 to 384`, the rows, the parts, and `end`
unfoldable pub alone_text : ℕ → List ℕ → AppTrace → ℕ → ℕ → List ℕ
alone_text slot_cycles name t start end =
    (codes "alone " ++ name ++ from_to_text (start * slot_cycles) (end * slot_cycles)) ++ trace_text t ++ end_line
