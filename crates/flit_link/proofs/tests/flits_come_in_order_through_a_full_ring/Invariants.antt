use Rattle.std.proofs.Common.{◌≡◌, None}
use Rattle.flit_link.specs.Link.{sending, AreEnds}
use Rattle.flit_link.proofs.tests.flits_come_in_order_through_a_full_ring.Given as goal

abbrev pub invariant-loop-number : goal.invariant-loop-number
invariant-loop-number g l = AreEnds l.out l.into × (sending l.out ≡ None)

abbrev pub invariant-loop-number-2 : goal.invariant-loop-number-2
invariant-loop-number-2 g l = AreEnds l.out l.into
