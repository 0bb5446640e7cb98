use Rattle.std.proofs.Common.{sym, ◌∙◌}
use Rattle.grant_tables.proofs.Begun.{begin_front, begin_behind, begin_past}
use Rattle.grant_tables.proofs.entries.begin_grants.Goals as goal
use Rattle.grant_tables.proofs.entries.begin_grants.Goals.{then-begins_in, else-begins_in}

pub begin_grant-requires : goal.begin_grant-requires
begin_grant-requires c = record {
  room = begin_front c.args.world.now c.args.tile c.args.slot _ c.args.grants.now c.loop-grant.grant-index _ c.loop-grant.tables c.loop-grant-test.true c.loop-grant.invariant (sym c.begins_in.ensures ∙ c.if-begins_in.true);
}

pub loop-grant-preserved : goal.loop-grant-preserved
loop-grant-preserved c = elim c.if-begins_in.branch [
  | then-begins_in w ↦
      begin_behind c.args.world.now c.args.tile c.args.slot _ c.args.grants.now c.loop-grant.grant-index _ c.loop-grant.tables c.if-begins_in.tables c.loop-grant-test.true c.loop-grant.invariant
      (sym c.begins_in.ensures ∙ w.if-begins_in.true) (w.tables-is ∙ w.begin_grant.ensures)
  | else-begins_in w ↦
      rw w.tables-is (begin_past c.args.world.now c.args.tile c.args.slot _ c.args.grants.now c.loop-grant.grant-index _ c.loop-grant.tables c.loop-grant-test.true c.loop-grant.invariant (sym c.begins_in.ensures ∙ w.if-begins_in.false))
]
