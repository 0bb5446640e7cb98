use Rattle.std.proofs.Common.{◌≡◌, ◌+◌, take}
use Rattle.vep_manager.specs.Loads.{session_loads}
use Rattle.vep_manager.proofs.loads.named_loads.Given as goal

abbrev pub invariant-loop-script : goal.invariant-loop-script
invariant-loop-script l =
    (l.loads.items ≡ session_loads l.catalog 1 (take l.script-index l.scripts)) × (l.session ≡ 1 + l.script-index)
