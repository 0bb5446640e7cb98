-- What each line of a script means, and what a whole script is.
use Rattle.std.specs.Prelude.{◌≡◌, ℕ, ◌+◌, ◌<◌, ◌≤◌, IsTrue, Bool, ◌&&◌, ◌||◌, ◌==◌, nat_le, nat_lt, nat_eq, List, [], ◌∷◌, length, codes, slice_get, unwrap_or, if◌then◌else◌, Option, Some, None, Result, Ok, Err}
use Rattle.std.specs.List.{list_all, filter_map, starts_with}
use Rattle.std.specs.Str.{bytes_eq}
use Rattle.soc_base.specs.Text.{number_read}
use Rattle.soc_base.specs.declared.limits.TheConstants.{LAST_STATED_CYCLE, MOST_COMMANDS}
use Rattle.soc_base.specs.declared.number.NumFault.{NumFault}
use Rattle.script_file.specs.declared.command.Command.{Command}
use Rattle.script_file.specs.declared.command.Command.TheVariants.{Load, Stop, Until}
use Rattle.script_file.specs.declared.command.Script.{Script}
use Rattle.script_file.specs.declared.rules.SRule.{SRule}
use Rattle.script_file.specs.declared.rules.TheConstants.{MOST_NAME_BYTES}
use Rattle.script_file.specs.declared.rules.SRule.TheVariants.{S1, S2, S3}
use Rattle.script_file.specs.declared.rules.ScriptFault.{ScriptFault}
use Rattle.script_file.specs.declared.rules.ScriptFault.TheVariants.{Line, TooMany, NoMemory}
use Rattle.script_file.specs.Lines.{lines_of, words_of}

-- the byte is from this to that one
abbrev pub is_between : ℕ → ℕ → ℕ → Bool
is_between byte least most = nat_le least byte && nat_le byte most

-- a letter or a digit of ASCII, `.`, `_`, `-` or `/`
abbrev pub is_name_byte : ℕ → Bool
is_name_byte byte =
    is_between byte 97 122 || is_between byte 65 90 || is_between byte 48 57
    || byte == 46 || byte == 95 || byte == 45 || byte == 47

-- the name of a bundle file
abbrev pub is_name : List ℕ → Bool
is_name word = nat_le (length word) MOST_NAME_BYTES && list_all is_name_byte word

-- the n-th word, counted from 0
abbrev pub word_at : List (List ℕ) → ℕ → List ℕ
word_at words n = unwrap_or (slice_get words n) []

-- the words are `load`, a name, `at` and a cycle
abbrev pub has_load_shape : List (List ℕ) → Bool
has_load_shape words =
    length words == 4 && bytes_eq (word_at words 0) (codes "load") && bytes_eq (word_at words 2) (codes "at")

-- the words are `stop`, the number of a load command, `at` and a cycle
abbrev pub has_stop_shape : List (List ℕ) → Bool
has_stop_shape words =
    length words == 4 && bytes_eq (word_at words 0) (codes "stop") && bytes_eq (word_at words 2) (codes "at")

-- the words are `until` and a cycle
abbrev pub has_until_shape : List (List ℕ) → Bool
has_until_shape words = length words == 2 && bytes_eq (word_at words 0) (codes "until")

-- the load of a name, once its cycle is read
abbrev pub load_at : List ℕ → Result ℕ NumFault → Result (Option Command) SRule
load_at name (Ok cycle) = Ok (Some (Load name cycle))
load_at name (Err fault) = Err S3

-- the load of a name at a cycle: the name is judged first, then the cycle
abbrev pub load_command_of : List ℕ → List ℕ → Result (Option Command) SRule
load_command_of name cycle = if is_name name then load_at name (number_read cycle LAST_STATED_CYCLE) else Err S2

-- the stop of a load command, once its number and the cycle are read: load commands are numbered from 1
abbrev pub stop_at : Result ℕ NumFault → Result ℕ NumFault → Result (Option Command) SRule
stop_at (Ok load) (Ok cycle) = if nat_lt 0 load then Ok (Some (Stop load cycle)) else Err S3
stop_at (Ok load) (Err fault) = Err S3
stop_at (Err fault) cycle = Err S3

-- the stop of the load command of a number at a cycle
abbrev pub stop_command_of : List ℕ → List ℕ → Result (Option Command) SRule
stop_command_of load cycle = stop_at (number_read load MOST_COMMANDS) (number_read cycle LAST_STATED_CYCLE)

-- the promise of a session, once its cycle is read
abbrev pub until_at : Result ℕ NumFault → Result (Option Command) SRule
until_at (Ok cycle) = Ok (Some (Until cycle))
until_at (Err fault) = Err S3

-- the promise to ask for nothing before a cycle
abbrev pub until_command_of : List ℕ → Result (Option Command) SRule
until_command_of cycle = until_at (number_read cycle LAST_STATED_CYCLE)

-- the command of a line, or the least rule that it breaks
abbrev pub command_of : List (List ℕ) → Result (Option Command) SRule
command_of words =
    if has_load_shape words then load_command_of (word_at words 1) (word_at words 3)
    else if has_stop_shape words then stop_command_of (word_at words 1) (word_at words 3)
    else if has_until_shape words then until_command_of (word_at words 1)
    else Err S1

-- what a command of a script states is in its range
abbrev pub IsStated : Command → Type 0
IsStated (Load name cycle) = IsTrue (is_name name) × (cycle ≤ LAST_STATED_CYCLE)
IsStated (Stop load cycle) = (0 < load) × (load ≤ MOST_COMMANDS) × (cycle ≤ LAST_STATED_CYCLE)
IsStated (Until cycle) = cycle ≤ LAST_STATED_CYCLE

-- a blank line has no word, and a comment's first word begins with `#`
abbrev pub is_remark : List (List ℕ) → Bool
is_remark words = length words == 0 || starts_with nat_eq (word_at words 0) (codes "#")

-- what the words of a line mean
abbrev pub words_meaning : List (List ℕ) → Result (Option Command) SRule
words_meaning words = if is_remark words then Ok None else command_of words

-- what a line means: a command, or none in a blank line and in a comment, or the least rule that the
-- line breaks
abbrev pub line_meaning : List ℕ → Result (Option Command) SRule
line_meaning line = words_meaning (words_of line)

-- the fault of a line, if it breaks a rule, and else the fault of a later one
abbrev pub fault_or : Result (Option Command) SRule → ℕ → Option ScriptFault → Option ScriptFault
fault_or (Ok command) number later = later
fault_or (Err rule) number later = Some (Line number rule)

-- the first line that breaks a rule, the lines being numbered from `number` on, and the least rule that
-- it breaks
abbrev pub first_fault : ℕ → List (List ℕ) → Option ScriptFault
first_fault number [] = None
first_fault number (line ∷ lines) = fault_or (line_meaning line) number (first_fault (number + 1) lines)

-- the command of a line that breaks no rule and has one
abbrev pub command_in : Result (Option Command) SRule → Option Command
command_in (Ok command) = command
command_in (Err rule) = None

-- the commands of lines that break no rule
abbrev pub commands_in_lines : List (List ℕ) → List Command
commands_in_lines lines = filter_map (λ line. command_in (line_meaning line)) lines

-- the commands, where there is room for so many
abbrev pub within_room : ℕ → List Command → Result (List Command) ScriptFault
within_room room commands = if nat_lt room (length commands) then Err TooMany else Ok commands

-- the first fault of a line, if there is one, and else what the commands are
abbrev pub unless_fault : Option ScriptFault → Result (List Command) ScriptFault → Result (List Command) ScriptFault
unless_fault (Some fault) commands = Err fault
unless_fault None commands = commands

-- what the bytes of a script mean, where there is room for so many commands: its commands, or its first
-- fault. A line that breaks a rule comes before too many commands.
unfoldable pub script_meant : List ℕ → ℕ → Result (List Command) ScriptFault
script_meant bytes room =
    unless_fault (first_fault 1 (lines_of bytes)) (within_room room (commands_in_lines (lines_of bytes)))

-- the answer of a reader is what the bytes mean, or want of memory
abbrev pub AnswersMeaning : Result (List Command) ScriptFault → Result Script ScriptFault → Type 0
AnswersMeaning meant (Ok script) = meant ≡ Ok script.commands
AnswersMeaning meant (Err (Line number rule)) = meant ≡ Err (Line number rule)
AnswersMeaning meant (Err TooMany) = meant ≡ Err TooMany
AnswersMeaning meant (Err NoMemory) = Unit {0}
