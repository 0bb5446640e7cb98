use Rattle.std.proofs.Common.{arith}
use Rattle.alone_model.proofs.Ports.{granted_more}
use Rattle.alone_model.proofs.port.granted_ports.Goals as goal

pub loop-number-preserved : goal.loop-number-preserved
loop-number-preserved c = (
  granted_more c.args.queue c.args.numbers.now c.loop-number._number-index c.loop-number.ports.items _ c.in_ok-granted.field-0 (omega arith) c.loop-number.invariant.0 c.in_ok-granted.ensures c.push_reserved.ensures.items,
  omega arith,
  omega arith,
)
