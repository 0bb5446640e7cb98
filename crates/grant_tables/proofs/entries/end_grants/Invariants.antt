use Rattle.std.proofs.Common.{◌≡◌, drop}
use Rattle.grant_tables.specs.Tables.{tables_ended}
use Rattle.grant_tables.proofs.entries.end_grants.Given as goal

abbrev pub invariant-loop-grant : goal.invariant-loop-grant
invariant-loop-grant l = tables_ended (drop l.grant-index l.grants) l.slot l.tables ≡ tables_ended l.grants l.slot l.fn.tables
