use Rattle.std.proofs.Common.{◌≡◌, length}
use Rattle.tdm_network.proofs.tests.filled.Given as goal

abbrev pub invariant-loop-label : goal.invariant-loop-label
invariant-loop-label g l = length l.tables ≡ l.table_slots
