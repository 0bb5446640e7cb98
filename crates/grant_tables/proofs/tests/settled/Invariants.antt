use Rattle.grant_tables.specs.Tables.{AreTabled}
use Rattle.grant_tables.proofs.tests.settled.Given as goal

abbrev pub invariant-loop-slot : goal.invariant-loop-slot
invariant-loop-slot l = AreTabled l.world l.grants l.slot l.tile l.tables
