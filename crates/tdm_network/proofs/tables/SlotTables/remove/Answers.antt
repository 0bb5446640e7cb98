use Rattle.std.proofs.Common.{◌∙◌, length, ap, arith}
use Rattle.std.proofs.lemmas.Grind.{common_steps}
use Rattle.tdm_network.specs.Rows.{kept_row}
use Rattle.tdm_network.specs.Spots.{spots_of}
use Rattle.tdm_network.proofs.SpotLemmas.{spots-removed}
use Rattle.tdm_network.proofs.Written.{written_more}
use Rattle.tdm_network.proofs.tables.SlotTables.remove.Goals as goal

pub loop-row-preserved : goal.loop-row-preserved
loop-row-preserved c = written_more (kept_row c.args.label) c.loop-row.row-index c.args.self.now c.loop-row.row-items _ c.clear.new.self (omega (arith, c.deref_mut-row-items.ensures.len, ap length c.self.view_is)) c.loop-row.invariant c.clear.ensures

pub returns-clause-rows : goal.returns-clause-rows
returns-clause-rows c = grind (arith, common_steps)

pub returns-clause-alone : goal.returns-clause-alone
returns-clause-alone c spot = ap (λ rows. spots_of rows spot) (returns-clause-rows c) ∙ spots-removed c.args.label c.args.self.now spot
