-- A setup is sound.
use Rattle.std.proofs.Common.{◌≡◌, ◌*◌, ◌<◌, ◌≤◌, List, [], ◌∷◌, ◌++◌, length, All, IfOk, sym}
use Rattle.std.proofs.lemmas.List.Concat.{length-flat_map}
use Rattle.std.proofs.lemmas.List.Elements.{All-push}
use Rattle.soc_base.specs.declared.limits.TheConstants.{LAST_CYCLE, MOST_COMMANDS, MOST_SCRIPTS}
use Rattle.platform_model.specs.declared.platform.Platform.{Platform}
use Rattle.bundle_model.specs.declared.world.Named.{Named}
use Rattle.bundle_model.specs.WellFormed.{IsWellFormed}
use Rattle.bundle_model.specs.World.{IsSoundCatalog}
use Rattle.script_file.specs.declared.command.Script.{Script}
use Rattle.vep_manager.specs.declared.setup.Setup.{Setup}
use Rattle.vep_manager.specs.Setup.{IsSound}
use Rattle.soc_top.specs.inner.Naming.{all_commands, AreWellFormed, InTime}

pub sound_setup : (setup : Setup) (scripts : List Script) → IsSoundCatalog setup.world → setup.scripts ≡ scripts
    → 0 < length scripts → length scripts ≤ MOST_SCRIPTS → length (all_commands scripts) ≤ MOST_COMMANDS
    → All InTime scripts → setup.budget * setup.world.platform.slot_cycles ≤ LAST_CYCLE → IsSound setup
sound_setup setup scripts catalog are some most few cycles budget =
    let sum = length-flat_map (λ (s : Script). s.commands) scripts in
    record {
      catalog = catalog;
      some_script = rw are some;
      few_scripts = rw are most;
      few_commands = rw (are, sym sum) few;
      cycles = rw are cycles;
      budget = budget;
    }

-- a catalog with one bundle file more
pub formed_push : (platform : Platform) (catalog : List Named) (named : Named) → AreWellFormed platform catalog
    → IfOk named.judged (IsWellFormed platform) → AreWellFormed platform (catalog ++ named ∷ [])
formed_push platform catalog named formed one =
    All-push (λ (n : Named). IfOk n.judged (IsWellFormed platform)) catalog named formed one
