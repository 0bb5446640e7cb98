-- What is true of the setup of a run.
use Rattle.std.specs.Prelude.{ℕ, ◌*◌, ◌<◌, ◌≤◌, length, sum_by, All}
use Rattle.soc_base.specs.declared.limits.TheConstants.{LAST_CYCLE, MOST_COMMANDS, MOST_SCRIPTS}
use Rattle.bundle_model.specs.World.{IsSoundCatalog}
use Rattle.script_file.specs.declared.command.Command.{Command}
use Rattle.script_file.specs.declared.command.Command.TheVariants.{Load, Stop, Until}
use Rattle.vep_manager.specs.declared.setup.Setup.{Setup}

-- the cycle that a command states
abbrev pub stated_cycle : Command → ℕ
stated_cycle (Load name cycle) = cycle
stated_cycle (Stop load cycle) = cycle
stated_cycle (Until cycle) = cycle

-- how many commands the scripts have
abbrev pub command_count : Setup → ℕ
command_count setup = sum_by (λ script. length script.commands) setup.scripts

-- no command states a cycle above a limit
abbrev pub StatesWithin : Setup → ℕ → Type 0
StatesWithin setup limit = All (λ script. All (λ command. stated_cycle command ≤ limit) script.commands) setup.scripts

-- every bundle of the catalog that breaks no rule is well-formed for the platform, there are 1 to 16
-- scripts with at most 256 commands in all, and no command states and no run ends at a cycle above the
-- last one
pub record IsSound (setup : Setup) : Type 0 where
  pub catalog : IsSoundCatalog setup.world
  pub some_script : 0 < length setup.scripts
  pub few_scripts : length setup.scripts ≤ MOST_SCRIPTS
  pub few_commands : command_count setup ≤ MOST_COMMANDS
  pub cycles : StatesWithin setup LAST_CYCLE
  pub budget : setup.budget * setup.world.platform.slot_cycles ≤ LAST_CYCLE
