use Rattle.std.proofs.Common.{arith}
use Rattle.tdm_network.specs.Rows.{kept}
use Rattle.tdm_network.proofs.Written.{written_more}
use Rattle.tdm_network.proofs.rows.clear_outs.Goals as goal

pub loop-out-preserved : goal.loop-out-preserved
loop-out-preserved c = written_more (kept c.args.label) c.loop-out.out c.args.outs.now c.loop-out.outs _ c.kept.result (omega arith) c.loop-out.invariant c.kept.ensures
