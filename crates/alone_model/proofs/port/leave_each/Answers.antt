use Rattle.std.proofs.Common.{arith}
use Rattle.alone_model.specs.inner.Exchange.{after_leaving}
use Rattle.alone_model.proofs.Ports.{each_port_more}
use Rattle.alone_model.proofs.port.leave_each.Goals as goal

pub loop-place-preserved : goal.loop-place-preserved
loop-place-preserved c =
    each_port_more (after_leaving c.args.senders.now c.args.tile) c.args.numbers.now c.args.ports.now c.loop-place.ports c.loop-place.place _ c.leave.new.port
    c.requires (omega arith) c.loop-place.invariant c.leave.ensures
