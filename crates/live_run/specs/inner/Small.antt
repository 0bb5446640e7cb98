-- Short scripts, for tests.
use Rattle.std.specs.Prelude.{◌<◌, ◌≤◌, ◌^◌, length, All}
use Rattle.script_file.specs.declared.command.Command.{Command}
use Rattle.script_file.specs.declared.command.Script.{Script}
use Rattle.vep_manager.specs.Setup.{stated_cycle}

-- the command states a cycle below 2 ^ 16
abbrev pub IsSmallCommand : Command → Type 0
IsSmallCommand command = stated_cycle command < 2 ^ 16

-- the script has at most 16 commands, which state cycles below 2 ^ 16
pub record IsSmallScript (script : Script) : Type 0 where
  pub few : length script.commands ≤ 16
  pub low : All IsSmallCommand script.commands
