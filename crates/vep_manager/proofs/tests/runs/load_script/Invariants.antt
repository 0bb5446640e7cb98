use Rattle.std.specs.List.{All}
use Rattle.vep_manager.specs.inner.Small.{IsSmallCommand}
use Rattle.vep_manager.proofs.tests.runs.load_script.Given as goal

abbrev pub invariant-loop-name : goal.invariant-loop-name
invariant-loop-name l = All IsSmallCommand l.commands.items
