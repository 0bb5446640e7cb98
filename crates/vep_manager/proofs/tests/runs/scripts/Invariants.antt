use Rattle.std.specs.List.{All}
use Rattle.vep_manager.specs.inner.Small.{IsSmallScript}
use Rattle.vep_manager.proofs.tests.runs.scripts.Given as goal

abbrev pub invariant-loop-session : goal.invariant-loop-session
invariant-loop-session l = All IsSmallScript l.scripts.items
