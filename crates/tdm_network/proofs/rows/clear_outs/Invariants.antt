use Rattle.std.proofs.Common.{◌≡◌, ◌++◌, map, take, drop}
use Rattle.tdm_network.specs.Rows.{kept}
use Rattle.tdm_network.proofs.rows.clear_outs.Given as goal

abbrev pub invariant-loop-out : goal.invariant-loop-out
invariant-loop-out l = l.outs ≡ map (kept l.label) (take l.out l.fn.outs) ++ drop l.out l.fn.outs
