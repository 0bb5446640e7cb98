use Rattle.std.proofs.Common.{◌≡◌, take, replicate, None}
use Rattle.tdm_network.proofs.rows.outs_free.Given as goal

abbrev pub invariant-loop-out : goal.invariant-loop-out
invariant-loop-out l = take l.out-index l.outs ≡ replicate l.out-index None
