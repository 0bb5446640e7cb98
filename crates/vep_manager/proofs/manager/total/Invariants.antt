use Rattle.std.proofs.Common.{◌≡◌, length, take}
use Rattle.std.specs.List.{sum_by}
use Rattle.vep_manager.proofs.manager.total.Given as goal

abbrev pub invariant-loop-script : goal.invariant-loop-script
invariant-loop-script l = l.total ≡ sum_by (λ script. length script.commands) (take l.script-index l.script-items)
