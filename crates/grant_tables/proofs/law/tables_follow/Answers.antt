use Rattle.grant_tables.proofs.Tabled.{tables_begin, tables_go_on}
use Rattle.grant_tables.proofs.law.tables_follow.Goals as goal

pub returns-clause-first : goal.returns-clause-first
returns-clause-first c = tables_begin

pub returns-clause-next : goal.returns-clause-next
returns-clause-next c = tables_go_on
