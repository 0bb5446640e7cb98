-- The commands of a script are within the manager's limits.
use Rattle.std.proofs.Common.{◌≤◌, List, All, arith}
use Rattle.std.proofs.lemmas.List.Elements.{All-weaker}
use Rattle.soc_base.specs.declared.limits.TheConstants.{LAST_CYCLE}
use Rattle.script_file.specs.declared.command.Command.{Command}
use Rattle.script_file.specs.declared.command.Command.TheVariants.{Load, Stop, Until}
use Rattle.script_file.specs.Commands.{IsStated}
use Rattle.vep_manager.specs.Setup.{stated_cycle}

in_time : (command : Command) → IsStated command → stated_cycle command ≤ LAST_CYCLE
in_time (Load name cycle) is = omega (arith, is.1)
in_time (Stop load cycle) is = omega (arith, is.2)
in_time (Until cycle) is = omega (arith, is)

pub cycles_stated : (commands : List Command) → All IsStated commands
    → All (λ command. stated_cycle command ≤ LAST_CYCLE) commands
cycles_stated commands all = All-weaker IsStated (λ command. stated_cycle command ≤ LAST_CYCLE) in_time commands all
