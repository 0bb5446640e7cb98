use Rattle.std.proofs.Common.{◌≡◌, ◌∙◌, length, ap, arith}
use Rattle.std.proofs.lemmas.Grind.{common_steps}
use Rattle.tdm_network.specs.declared.rows.Row.{Row}
use Rattle.tdm_network.specs.Rows.{row_at, slot_of}
use Rattle.tdm_network.specs.Spots.{spots_of}
use Rattle.tdm_network.proofs.SpotLemmas.{spots-installed}
use Rattle.tdm_network.proofs.tables.SlotTables.install.Goals as goal

pub returns-clause-rows : goal.returns-clause-rows
returns-clause-rows c = grind (arith, common_steps)

pub returns-clause-alone : goal.returns-clause-alone
returns-clause-alone c spot =
    let here : row_at c.args.self.now (slot_of c.args.entry) ≡ c.index_mut-row.result.now = grind (arith, common_steps) in
    let long : length (row_at c.args.self.now (slot_of c.args.entry)).outs ≡ 7 = ap (λ (row : Row). length row.outs) here ∙ c.add.ensures.outs in
    ap (λ rows. spots_of rows spot) (returns-clause-rows c) ∙ spots-installed c.args.label c.args.entry c.args.self.now spot c.requires.range.slot c.requires.range.numbers long
