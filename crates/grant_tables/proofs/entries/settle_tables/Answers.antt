use Rattle.std.proofs.Common.{◌+◌, sym, ◌∙◌, subst}
use Rattle.grant_tables.specs.Tables.{AreTabled}
use Rattle.grant_tables.proofs.Tabled.{tables_go_on, room_begins}
use Rattle.grant_tables.proofs.Begun.{quiet_stays}
use Rattle.grant_tables.proofs.entries.settle_tables.Goals as goal

pub returns-then-is_quiet-clause-rows : goal.returns-then-is_quiet-clause-rows
returns-then-is_quiet-clause-rows c = quiet_stays c.args.world.now c.args.tile c.args.grants.now c.args.slot c.args.tables.now (sym c.is_quiet.ensures ∙ c.if-is_quiet.true)

pub returns-then-is_quiet-clause-tabled : goal.returns-then-is_quiet-clause-tabled
returns-then-is_quiet-clause-tabled c =
    subst (AreTabled c.args.world.now c.args.grants.now (c.args.slot + 1) c.args.tile)
    (sym (quiet_stays c.args.world.now c.args.tile c.args.grants.now c.args.slot c.args.tables.now (sym c.is_quiet.ensures ∙ c.if-is_quiet.true)))
    (tables_go_on c.args.world.now c.args.grants.now c.args.slot c.args.tile c.args.tables.now c.requires.sound c.requires.apart c.requires.tabled)

pub begin_grants-requires : goal.begin_grants-requires
begin_grants-requires c = record {
  room = rw c.end_grants.ensures (room_begins c.args.world.now c.args.grants.now c.args.slot c.args.tile c.requires.sound c.requires.apart c.args.tables.now c.requires.tabled);
}

pub returns-clause-tabled : goal.returns-clause-tabled
returns-clause-tabled c =
    rw (c.begin_grants.ensures, c.end_grants.ensures) (tables_go_on c.args.world.now c.args.grants.now c.args.slot c.args.tile c.args.tables.now c.requires.sound c.requires.apart c.requires.tabled)
