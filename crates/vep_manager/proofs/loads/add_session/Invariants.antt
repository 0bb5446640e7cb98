use Rattle.std.proofs.Common.{◌≡◌, ◌+◌, ◌≤◌, ◌++◌, length, take}
use Rattle.vep_manager.specs.Loads.{loaded_names, loads_from}
use Rattle.vep_manager.proofs.loads.add_session.Given as goal

abbrev pub invariant-loop-command : goal.invariant-loop-command
invariant-loop-command l =
    (l.loads.items ≡ l.fn.loads.items
    ++ loads_from l.catalog l.session 1 (loaded_names (take l.command-index l.commands)))
    × (l.load ≡ 1 + length (loaded_names (take l.command-index l.commands))) × (l.load ≤ 1 + l.command-index)
