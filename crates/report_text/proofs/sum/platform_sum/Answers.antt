use Rattle.std.proofs.Common.{◌∙◌, arith}
use Rattle.report_text.proofs.Shares.{shares_are_sum}
use Rattle.report_text.proofs.sum.platform_sum.Goals as goal

pub returns : goal.returns
returns c = c.loop-station.invariant ∙ shares_are_sum c.args.stations.now c.loop-station.station-index (omega arith)
