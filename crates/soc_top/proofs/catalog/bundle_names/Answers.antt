use Rattle.std.proofs.Common.{arith}
use Rattle.soc_top.proofs.Names.{named_end}
use Rattle.soc_top.proofs.catalog.bundle_names.Goals as goal

pub returns : goal.returns
returns c =
    named_end c.args.scripts.now c.loop-script.script-index c.loop-script.known.items (omega arith)
    c.loop-script.invariant
