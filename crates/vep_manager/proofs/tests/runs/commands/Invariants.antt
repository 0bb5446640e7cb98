use Rattle.std.specs.List.{All}
use Rattle.vep_manager.specs.inner.Small.{IsSmallCommand}
use Rattle.vep_manager.proofs.tests.runs.commands.Given as goal

abbrev pub invariant-loop-one : goal.invariant-loop-one
invariant-loop-one l = All IsSmallCommand l.commands.items
