use Rattle.std.proofs.Common.{◌≡◌, ◌++◌, map, take, drop}
use Rattle.alone_model.specs.Network.{with_ports}
use Rattle.alone_model.specs.inner.Exchange.{after_leaving}
use Rattle.alone_model.proofs.application.leave_all.Given as goal

abbrev pub invariant-loop-part : goal.invariant-loop-part
invariant-loop-part l =
    l.part-items ≡ map (with_ports (after_leaving l.senders)) (take l.part-index l.fn.parts.items) ++ drop l.part-index l.fn.parts.items
