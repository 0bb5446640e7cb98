use Rattle.std.proofs.Common.{drop}
use Rattle.grant_tables.specs.Tables.{tables_begun}
use Rattle.grant_tables.proofs.Begun.{Begins}
use Rattle.grant_tables.proofs.entries.begin_grants.Given as goal

abbrev pub invariant-loop-grant : goal.invariant-loop-grant
invariant-loop-grant l = Begins l.world l.tile l.slot (tables_begun l.world l.tile l.grants l.slot l.fn.tables) (drop l.grant-index l.grants) l.tables
