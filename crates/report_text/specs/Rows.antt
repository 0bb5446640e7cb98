-- The lines of a trace. Numbers are decimal, words are eight hexadecimal digits, and each line ends with
-- a line feed.
use Rattle.std.specs.Prelude.{ℕ, List, [], ◌∷◌, ◌++◌, codes, decimal}
use Rattle.soc_base.specs.Text.{hex_text}
use Rattle.soc_base.specs.declared.cause.Cause.{Cause}
use Rattle.soc_base.specs.declared.cause.Cause.TheVariants.{Illegal, Fetch, Target, Align, Access, Break}
use Rattle.trace_log.specs.declared.row.TraceRow.{TraceRow}
use Rattle.trace_log.specs.Kinds.{kind_text}
use Rattle.trace_log.specs.declared.row.PartEnd.{PartEnd}
use Rattle.trace_log.specs.declared.row.PartEnd.TheVariants.{Live, Halt, Fault}
use Rattle.alone_model.specs.declared.trace.PartTrace.{PartTrace}

-- a line feed
abbrev pub line_end : List ℕ
line_end = 10 ∷ []

-- the word of the cause of a fault
abbrev pub cause_text : Cause → List ℕ
cause_text Illegal = codes "illegal"
cause_text Fetch = codes "fetch"
cause_text Target = codes "target"
cause_text Align = codes "align"
cause_text Access = codes "access"
cause_text Break = codes "break"

-- a row: its cycle, tile, kind and value, as in `77 0 word 00000007`
unfoldable pub row_text : TraceRow → List ℕ
row_text row =
    decimal row.cycle ++ codes " " ++ decimal row.tile ++ codes " " ++ kind_text row.kind ++ codes " "
    ++ hex_text row.value ++ line_end

-- how a part stands, as in `halt 00000000 at 78`
abbrev pub end_text : PartEnd → List ℕ
end_text Live = codes "live"
end_text (Halt code cycle) = codes "halt " ++ hex_text code ++ codes " at " ++ decimal cycle
end_text (Fault cause cycle) = codes "fault " ++ cause_text cause ++ codes " at " ++ decimal cycle

-- a part: its tile, how it stands and how many rows were cut, as in `part 0 live cut 0`
unfoldable pub part_text : PartTrace → List ℕ
part_text part = codes "part " ++ decimal part.tile ++ codes " " ++ end_text part.end ++ codes " cut "
    ++ decimal part.cut ++ line_end
