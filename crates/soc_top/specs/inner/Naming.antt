-- The scripts of a run one after another, and the bundle files that they name.
use Rattle.std.specs.Prelude.{◌≡◌, ℕ, ◌+◌, ◌≤◌, List, [], ◌∷◌, ◌++◌, length, map, All, IfOk, Option, Some, None}
use Rattle.std.specs.List.{flat_map}
use Rattle.soc_base.specs.declared.limits.TheConstants.{LAST_CYCLE, MOST_COMMANDS}
use Rattle.soc_io.specs.Reading.{Held}
use Rattle.platform_model.specs.declared.platform.Platform.{Platform}
use Rattle.bundle_model.specs.declared.world.Named.{Named}
use Rattle.bundle_model.specs.WellFormed.{IsWellFormed}
use Rattle.script_file.specs.declared.command.Command.{Command}
use Rattle.script_file.specs.declared.command.Script.{Script}
use Rattle.vep_manager.specs.Loads.{loaded_name}
use Rattle.vep_manager.specs.Setup.{stated_cycle}
use Rattle.soc_top.specs.Wants.{Gives}
use Rattle.soc_top.specs.Wants.Want.{ScriptWant, JudgedWant}
use Rattle.soc_top.specs.Wants.Input.{ScriptRead, BundleRead}
use Rattle.soc_top.specs.Order.{Leaves}
use Rattle.soc_top.specs.Run.{with_name, bundle_names, bundles_order, scripts_order}

-- names with the one that a command names, where it names one that isn't among them
abbrev pub with_loaded : List (List ℕ) → Option (List ℕ) → List (List ℕ)
with_loaded known (Some name) = with_name known name
with_loaded known None = known

-- the names with that of the bundle file that a command names
abbrev pub with_command : List (List ℕ) → Command → List (List ℕ)
with_command known command = with_loaded known (loaded_name command)

-- the commands of scripts, in order
abbrev pub all_commands : List Script → List Command
all_commands scripts = flat_map (λ script. script.commands) scripts

-- no command of a script states a cycle above the last one
abbrev pub InTime : Script → Type 0
InTime script = All (λ command. stated_cycle command ≤ LAST_CYCLE) script.commands

-- a script of this name was judged, with this room, and appended; so many commands there is then room for
pub record IsAdded (told : Option Held) (name : List ℕ) (room : ℕ) (old new : List Script) (left : ℕ) : Type 0 where
  pub script : Script
  pub appended : new ≡ old ++ script ∷ []
  pub gives : Gives told (ScriptWant name room) (ScriptRead script)
  pub in_time : InTime script
  pub counted : left + length script.commands ≡ room

-- the scripts of these names were read, after whatever platform
pub record AreScripts (told : Option Held) (names : List (List ℕ)) (scripts : List Script) : Type 0 where
  pub read : (platform : Platform) → Leaves told (scripts_order platform names []) (map ScriptRead scripts)
      (bundles_order platform (bundle_names (all_commands scripts)))
  pub few : length (all_commands scripts) ≤ MOST_COMMANDS
  pub in_time : All InTime scripts
  pub each : length scripts ≡ length names

-- the names of a catalog's bundle files
abbrev pub catalog_names : List Named → List (List ℕ)
catalog_names catalog = map (λ named. named.name) catalog

-- a bundle file of this name was judged and appended
pub record IsJudged (told : Option Held) (platform : Platform) (name : List ℕ) (old new : List Named) : Type 0 where
  pub named : Named
  pub appended : new ≡ old ++ named ∷ []
  pub gives : Gives told (JudgedWant platform name) (BundleRead named)

-- each bundle of a catalog that breaks no rule is well-formed for the platform
abbrev pub AreWellFormed : Platform → List Named → Type 0
AreWellFormed platform catalog = All (λ named. IfOk named.judged (IsWellFormed platform)) catalog
