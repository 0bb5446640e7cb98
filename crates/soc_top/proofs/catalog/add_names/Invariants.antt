use Rattle.std.proofs.Common.{◌≡◌, fold, take}
use Rattle.soc_top.specs.inner.Naming.{with_command}
use Rattle.soc_top.proofs.catalog.add_names.Given as goal

abbrev pub invariant-loop-command : goal.invariant-loop-command
invariant-loop-command l = l.known.items ≡ fold with_command l.fn.known.items (take l.command-index l.command-items)
