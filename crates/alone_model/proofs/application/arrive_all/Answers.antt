use Rattle.std.proofs.Common.{arith}
use Rattle.std.proofs.lemmas.List.Edits.{map_over_more}
use Rattle.alone_model.specs.Network.{with_ports}
use Rattle.alone_model.specs.inner.Exchange.{after_arriving}
use Rattle.alone_model.proofs.application.arrive_all.Goals as goal

pub loop-part-preserved : goal.loop-part-preserved
loop-part-preserved c =
    let at = c.loop-part in
    let item = c.part-item in
    rw (c.arrive.ensures, ← item.is)
    (map_over_more (with_ports (after_arriving c.args.arrivals.now)) c.args.parts.now.items at.part-items at.part-index item.result (omega arith) at.invariant item.is)
