use Rattle.std.proofs.Common.{◌≡◌, ◌++◌, map, take, drop}
use Rattle.alone_model.specs.Network.{with_ports}
use Rattle.alone_model.specs.inner.Exchange.{after_arriving}
use Rattle.alone_model.proofs.application.arrive_all.Given as goal

abbrev pub invariant-loop-part : goal.invariant-loop-part
invariant-loop-part l =
    l.part-items ≡ map (with_ports (after_arriving l.arrivals)) (take l.part-index l.fn.parts.items) ++ drop l.part-index l.fn.parts.items
