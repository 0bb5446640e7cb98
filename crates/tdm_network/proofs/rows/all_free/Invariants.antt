use Rattle.std.proofs.Common.{◌≡◌, take}
use Rattle.tdm_network.specs.Rows.{free_rows}
use Rattle.tdm_network.proofs.rows.all_free.Given as goal

abbrev pub invariant-loop-row : goal.invariant-loop-row
invariant-loop-row l = take l.row-index l.rows ≡ free_rows l.row-index
