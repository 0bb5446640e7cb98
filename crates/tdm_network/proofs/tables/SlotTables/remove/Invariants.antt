use Rattle.std.proofs.Common.{◌≡◌, ◌++◌, map, take, drop}
use Rattle.tdm_network.specs.Rows.{kept_row}
use Rattle.tdm_network.proofs.tables.SlotTables.remove.Given as goal

abbrev pub invariant-loop-row : goal.invariant-loop-row
invariant-loop-row l = l.row-items ≡ map (kept_row l.label) (take l.row-index l.fn.self) ++ drop l.row-index l.fn.self
