-- The log of one part.
use Rattle.std.specs.Prelude.{ℕ, Bool, true, false, ◌+◌, ◌-◌, ◌^◌, List, [], ◌∷◌, ◌++◌, length, min, nat_lt, if◌then◌else◌}
use Rattle.trace_log.specs.declared.row.TraceRow.{TraceRow}
use Rattle.trace_log.specs.declared.row.PartEnd.{PartEnd}
use Rattle.trace_log.specs.declared.row.PartEnd.TheVariants.{Live, Halt, Fault}

-- the rows that were kept, the oldest first; for how many there is room; how many were cut, a count
-- that stays at the greatest u64 once there; and how the part stands
pub record Log : Type 0 where
  pub rows : List TraceRow
  pub room : ℕ
  pub cut : ℕ
  pub end : PartEnd

-- the log of a part that hasn't run
abbrev pub new_log : ℕ → Log
new_log room = record { rows = []; room = room; cut = 0; end = Live }

-- one row more: it is kept while there is room, and else counted
unfoldable pub logged : TraceRow → Log → Log
logged row log =
    if nat_lt (length log.rows) log.room then record log { rows = log.rows ++ row ∷ [] }
    else record log { cut = min (log.cut + 1) (2 ^ 64 - 1) }

-- the part ended
abbrev pub finished : PartEnd → Log → Log
finished end log = record log { end = end }

-- whether a part has ended
abbrev pub has_ended : PartEnd → Bool
has_ended Live = false
has_ended (Halt code cycle) = true
has_ended (Fault cause cycle) = true
