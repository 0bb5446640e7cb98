-- How a reader keeps the commands of the lines so far.
use Rattle.std.specs.Prelude.{ℕ, List, [], ◌++◌, nat_lt, if◌then◌else◌, Option}
use Rattle.std.specs.List.{cons_option}
use Rattle.script_file.specs.declared.command.Command.{Command}

-- the commands with that of one line more, where fewer than there is room for were counted so far
abbrev pub kept_with : List Command → ℕ → ℕ → Option Command → List Command
kept_with commands count room command = if nat_lt count room then commands ++ cons_option command [] else commands
