-- A setup of few short scripts is sound.
use Rattle.std.proofs.Common.{◌<◌, ◌≤◌, length, arith}
use Rattle.std.specs.List.{All}
use Rattle.std.proofs.lemmas.List.Sums.{sum_by-le}
use Rattle.std.proofs.lemmas.Nat.{mul-le}
use Rattle.soc_base.specs.declared.limits.TheConstants.{MOST_SCRIPTS}
use Rattle.bundle_model.specs.World.{IsSoundCatalog}
use Rattle.script_file.specs.declared.command.Script.{Script}
use Rattle.vep_manager.specs.declared.setup.Setup.{Setup}
use Rattle.vep_manager.specs.Setup.{IsSound}
use Rattle.live_run.specs.inner.Small.{IsSmallScript}

pub small_setup : (setup : Setup) → IsSoundCatalog setup.world → 0 < length setup.scripts
    → length setup.scripts ≤ MOST_SCRIPTS → All IsSmallScript setup.scripts → setup.budget ≤ 1000 → IsSound setup
small_setup setup catalog some few small budget =
    let short : All (λ script. length script.commands ≤ 16) setup.scripts = λ k d below. (small k d below).few in
    let total = sum_by-le (λ (script : Script). length script.commands) 16 setup.scripts short in
    let cycles = mul-le setup.budget setup.world.platform.slot_cycles 1000 64 budget
    setup.world.platform.slot_cycles_in_range.1 in
    record {
      catalog = catalog;
      some_script = some;
      few_scripts = few;
      few_commands = omega (arith, total, few);
      cycles = λ k d below i e low. let here = (small k d below).low i e low in omega (arith, here);
      budget = omega (arith, cycles);
    }
