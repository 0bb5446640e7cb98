-- What the commands of a script state is in its range.
use Rattle.std.proofs.Common.{◌≡◌, ℕ, Bool, true, false, cond, List, [], ◌∷◌, nat_lt, Option, Some, None, Result, Ok, Err, All, refl, subst}
use Rattle.std.specs.List.{cons_option}
use Rattle.std.proofs.lemmas.Bool.{ltb-true}
use Rattle.std.proofs.lemmas.List.Elements.{All-nil, All-cons}
use Rattle.soc_base.specs.declared.limits.TheConstants.{LAST_STATED_CYCLE, MOST_COMMANDS}
use Rattle.soc_base.specs.declared.number.NumFault.{NumFault}
use Rattle.soc_base.specs.Text.{number_read}
use Rattle.script_file.specs.declared.command.Command.{Command}
use Rattle.script_file.specs.declared.command.Command.TheVariants.{Load, Stop, Until}
use Rattle.script_file.specs.declared.rules.SRule.TheVariants.{S1, S2, S3}
use Rattle.script_file.specs.declared.rules.ScriptFault.{ScriptFault}
use Rattle.script_file.specs.declared.rules.ScriptFault.TheVariants.{TooMany}
use Rattle.script_file.specs.Lines.{lines_of, words_of}
use Rattle.script_file.specs.Commands.{IsStated, script_meant, unless_fault, within_room, first_fault, commands_in_lines, command_in, line_meaning, load_at, stop_at, until_at, is_name, is_remark, has_load_shape, has_stop_shape, has_until_shape, word_at}
use Rattle.script_file.proofs.Numbers.{read_within}

same_command : (one other : Command) → Some one ≡ Some other → one ≡ other
same_command one other is = cc

load_stated : (named : Bool) (name bytes : List ℕ) (cycle : Result ℕ NumFault) (command : Command)
    → is_name name ≡ named → number_read bytes LAST_STATED_CYCLE ≡ cycle
    → command_in (cond named (load_at name cycle) (Err S2)) ≡ Some command → IsStated command
load_stated true name bytes (Ok cycle) command named read is =
    subst IsStated (same_command (Load name cycle) command is)
    (named, read_within bytes LAST_STATED_CYCLE cycle read)
load_stated true name bytes (Err fault) command named read is = cc
load_stated false name bytes cycle command named read is = cc

stop_from : (some : Bool) (number bytes : List ℕ) (load cycle : ℕ) (command : Command)
    → nat_lt 0 load ≡ some → number_read number MOST_COMMANDS ≡ Ok load → number_read bytes LAST_STATED_CYCLE ≡ Ok cycle
    → command_in (cond some (Ok (Some (Stop load cycle))) (Err S3)) ≡ Some command → IsStated command
stop_from true number bytes load cycle command some counted read is =
    subst IsStated (same_command (Stop load cycle) command is)
    (ltb-true 0 load some, read_within number MOST_COMMANDS load counted, read_within bytes LAST_STATED_CYCLE cycle read)
stop_from false number bytes load cycle command some counted read is = cc

stop_stated : (number bytes : List ℕ) (load cycle : Result ℕ NumFault) (command : Command)
    → number_read number MOST_COMMANDS ≡ load → number_read bytes LAST_STATED_CYCLE ≡ cycle
    → command_in (stop_at load cycle) ≡ Some command → IsStated command
stop_stated number bytes (Ok load) (Ok cycle) command counted read is =
    stop_from (nat_lt 0 load) number bytes load cycle command refl counted read is
stop_stated number bytes (Ok load) (Err fault) command counted read is = cc
stop_stated number bytes (Err fault) cycle command counted read is = cc

until_stated : (bytes : List ℕ) (cycle : Result ℕ NumFault) (command : Command)
    → number_read bytes LAST_STATED_CYCLE ≡ cycle → command_in (until_at cycle) ≡ Some command → IsStated command
until_stated bytes (Ok cycle) command read is =
    subst IsStated (same_command (Until cycle) command is) (read_within bytes LAST_STATED_CYCLE cycle read)
until_stated bytes (Err fault) command read is = cc

-- by the shape of the words, of which these are the second and the fourth
words_stated : (remark load stop until : Bool) (second fourth : List ℕ) (command : Command)
    → command_in (cond remark (Ok None)
    (cond load (cond (is_name second) (load_at second (number_read fourth LAST_STATED_CYCLE)) (Err S2))
    (cond stop (stop_at (number_read second MOST_COMMANDS) (number_read fourth LAST_STATED_CYCLE))
    (cond until (until_at (number_read second LAST_STATED_CYCLE)) (Err S1)))))
    ≡ Some command
    → IsStated command
words_stated true load stop until second fourth command is = cc
words_stated false true stop until second fourth command is =
    load_stated (is_name second) second fourth (number_read fourth LAST_STATED_CYCLE) command refl refl is
words_stated false false true until second fourth command is =
    stop_stated second fourth (number_read second MOST_COMMANDS) (number_read fourth LAST_STATED_CYCLE) command refl refl is
words_stated false false false true second fourth command is =
    until_stated second (number_read second LAST_STATED_CYCLE) command refl is
words_stated false false false false second fourth command is = cc

-- the command of a line
line_stated : (line : List ℕ) (command : Command) → command_in (line_meaning line) ≡ Some command → IsStated command
line_stated line command is =
    let words = words_of line in
    words_stated (is_remark words) (has_load_shape words) (has_stop_shape words) (has_until_shape words)
    (word_at words 1) (word_at words 3) command is

found_stated : (found : Option Command) (commands : List Command)
    → ((command : Command) → found ≡ Some command → IsStated command) → All IsStated commands
    → All IsStated (cons_option found commands)
found_stated (Some command) commands here rest = All-cons IsStated command commands (here command refl) rest
found_stated None commands here rest = rest

pub lines_stated : (lines : List (List ℕ)) → All IsStated (commands_in_lines lines)
lines_stated [] = All-nil IsStated
lines_stated (line ∷ lines) =
    found_stated (command_in (line_meaning line)) (commands_in_lines lines) (line_stated line) (lines_stated lines)

room_left : (over : Bool) (all commands : List Command)
    → cond over (Err TooMany) (Ok all) ≡ Ok commands → all ≡ commands
room_left true all commands is = cc
room_left false all commands is = cc

unfaulted : (fault : Option ScriptFault) (room : ℕ) (all commands : List Command)
    → unless_fault fault (within_room room all) ≡ Ok commands → all ≡ commands
unfaulted (Some fault) room all commands is = cc
unfaulted None room all commands is = room_left _ all commands is

-- all commands of a script
pub meant_stated : (bytes : List ℕ) (room : ℕ) (commands : List Command) → script_meant bytes room ≡ Ok commands
    → All IsStated commands
unfolding script_meant
meant_stated bytes room commands is =
    subst (All IsStated) (unfaulted (first_fault 1 (lines_of bytes)) room (commands_in_lines (lines_of bytes)) commands is)
    (lines_stated (lines_of bytes))
