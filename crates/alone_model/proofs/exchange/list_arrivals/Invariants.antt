use Rattle.std.proofs.Common.{◌≡◌, ◌++◌, drop}
use Rattle.alone_model.specs.inner.Exchange.{arrivals_of}
use Rattle.alone_model.proofs.exchange.list_arrivals.Given as goal

abbrev pub invariant-loop-flight : goal.invariant-loop-flight
invariant-loop-flight l =
    l.arrivals.items ++ arrivals_of l.bundle l.slot (drop l.flight-index l.flying) ≡ arrivals_of l.bundle l.slot l.flying
