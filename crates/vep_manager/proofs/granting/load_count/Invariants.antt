use Rattle.std.proofs.Common.{◌≡◌, ◌≤◌, length, take}
use Rattle.vep_manager.specs.Loads.{loaded_names}
use Rattle.vep_manager.proofs.granting.load_count.Given as goal

abbrev pub invariant-loop-command : goal.invariant-loop-command
invariant-loop-command l =
    (l.loads ≡ length (loaded_names (take l.command-index l.commands))) × (l.loads ≤ l.command-index)
