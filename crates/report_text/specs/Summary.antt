-- The summary of a run: how many commands got which reply, how many rows were kept and cut, and how the parts
-- ended.
use Rattle.std.specs.Prelude.{◌≡◌, ℕ, List, [], ◌∷◌, ◌++◌, codes, count_by, decimal, length, sum_by}
use Rattle.std.specs.List.{flat_map}
use Rattle.std.specs.Str.{bytes_eq}
use Rattle.trace_log.specs.declared.row.PartEnd.{PartEnd}
use Rattle.trace_log.specs.declared.row.PartEnd.TheVariants.{Live, Halt, Fault}
use Rattle.bundle_model.specs.declared.world.Grant.{Grant}
use Rattle.alone_model.specs.declared.trace.PartTrace.{PartTrace}
use Rattle.alone_model.specs.declared.trace.AppTrace.{AppTrace}
use Rattle.vep_manager.specs.declared.setup.Setup.{Setup}
use Rattle.vep_manager.specs.declared.reply.Entry.{Entry}
use Rattle.vep_manager.specs.declared.reply.Reply.{Reply}
use Rattle.vep_manager.specs.declared.reply.Reply.TheVariants.{Malformed, Past, Taken, Granted, NoLoad, Already, Stopped, Horizon}
use Rattle.vep_manager.specs.History.{grants_of}
use Rattle.report_text.specs.Rows.{line_end}
use Rattle.report_text.specs.Alone.{end_line}
use Rattle.report_text.specs.Report.{IsAppTrace}

-- the word under which a reply is counted
abbrev pub reply_word : Reply → List ℕ
reply_word (Malformed rule) = codes "malformed"
reply_word (Past horizon) = codes "past"
reply_word (Taken resource owner free_from) = codes "taken"
reply_word (Granted label start) = codes "granted"
reply_word NoLoad = codes "noload"
reply_word (Already end) = codes "already"
reply_word (Stopped label end) = codes "stopped"
reply_word (Horizon horizon) = codes "horizon"

-- the word under which the end of a part is counted
abbrev pub end_word : PartEnd → List ℕ
end_word Live = codes "live"
end_word (Halt code cycle) = codes "halt"
end_word (Fault cause cycle) = codes "fault"

-- a word, and how many replies of a history are counted under it, as in `granted 24`
abbrev pub replies_text : List Entry → List ℕ → List ℕ
replies_text history word =
    word ++ codes " " ++ decimal (count_by (λ entry. bytes_eq (reply_word entry.reply) word) history)

-- a word, and how many parts ended so, as in `halt 48`
abbrev pub ends_text : List PartTrace → List ℕ → List ℕ
ends_text parts word = word ++ codes " " ++ decimal (count_by (λ part. bytes_eq (end_word part.end) word) parts)

-- the first line, as in `generate 1`
abbrev pub number_line : ℕ → List ℕ
number_line number = codes "generate " ++ decimal number ++ line_end

-- how many commands there were, as in `commands 72`
abbrev pub commands_line : List Entry → List ℕ
commands_line history = codes "commands " ++ decimal (length history) ++ line_end

-- how many of them got each reply
unfoldable pub replies_line : List Entry → List ℕ
replies_line history =
    replies_text history (codes "granted") ++ codes " " ++ replies_text history (codes "malformed") ++ codes " "
    ++ replies_text history (codes "past") ++ codes " " ++ replies_text history (codes "taken") ++ codes " "
    ++ replies_text history (codes "stopped") ++ codes " " ++ replies_text history (codes "noload") ++ codes " "
    ++ replies_text history (codes "already") ++ codes " " ++ replies_text history (codes "horizon") ++ line_end

-- the parts of all applications
abbrev pub all_parts : List AppTrace → List PartTrace
all_parts traces = flat_map (λ trace. trace.parts) traces

-- how many rows all applications kept, and how many were cut, as in `rows 96 cut 0`
unfoldable pub rows_line : List AppTrace → List ℕ
rows_line traces =
    codes "rows " ++ decimal (sum_by (λ trace. length trace.rows) traces)
    ++ codes " cut " ++ decimal (sum_by (λ part. part.cut) (all_parts traces)) ++ line_end

-- how many parts ended in each way, as in `parts halt 48 fault 0 live 0`
unfoldable pub parts_line : List AppTrace → List ℕ
parts_line traces =
    codes "parts " ++ ends_text (all_parts traces) (codes "halt") ++ codes " "
    ++ ends_text (all_parts traces) (codes "fault") ++ codes " " ++ ends_text (all_parts traces) (codes "live")
    ++ line_end

-- the summary of a run that was made of a number, with these traces of its applications
unfoldable pub summary_text : ℕ → List Entry → List AppTrace → List ℕ
summary_text number history traces =
    number_line number ++ commands_line history ++ replies_line history ++ rows_line traces ++ parts_line traces
    ++ end_line

-- the traces of the grants' applications, one for each
abbrev pub AreAppTraces : Setup → List Grant → List AppTrace → Type 0
AreAppTraces setup [] [] = Unit {0}
AreAppTraces setup (grant ∷ grants) (trace ∷ traces) = IsAppTrace setup grant trace × AreAppTraces setup grants traces
AreAppTraces setup [] (trace ∷ traces) = ⊥
AreAppTraces setup (grant ∷ grants) [] = ⊥

-- The summary of a history: its applications' traces are those that they have alone.
pub record IsSummary (number : ℕ) (setup : Setup) (history : List Entry) (text : List ℕ) : Type 0 where
  pub traces : List AppTrace
  pub are_traces : AreAppTraces setup (grants_of setup history) traces
  pub is_text : text ≡ summary_text number history traces
