use Rattle.std.proofs.Common.{arith}
use Rattle.alone_model.specs.inner.Exchange.{after_arriving}
use Rattle.alone_model.proofs.Ports.{each_port_more}
use Rattle.alone_model.proofs.port.arrive_each.Goals as goal

pub loop-place-preserved : goal.loop-place-preserved
loop-place-preserved c =
    each_port_more (after_arriving c.args.arrivals.now c.args.tile) c.args.numbers.now c.args.ports.now c.loop-place.ports c.loop-place.place _ c.arrive.new.port
    c.requires (omega arith) c.loop-place.invariant c.arrive.ensures
