use Rattle.std.proofs.Common.{◌≡◌, [], fold, take}
use Rattle.soc_top.specs.inner.Naming.{with_command, all_commands}
use Rattle.soc_top.proofs.catalog.bundle_names.Given as goal

abbrev pub invariant-loop-script : goal.invariant-loop-script
invariant-loop-script l =
    l.known.items ≡ fold with_command [] (all_commands (take l.script-index l.scripts))
