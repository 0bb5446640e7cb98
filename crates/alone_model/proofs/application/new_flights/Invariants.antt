use Rattle.std.proofs.Common.{◌≡◌, ◌≤◌, length, map, take, vec_len, vec_capacity}
use Rattle.alone_model.specs.inner.Exchange.{flit_of}
use Rattle.alone_model.proofs.application.new_flights.Given as goal

abbrev pub invariant-loop-sender : goal.invariant-loop-sender
invariant-loop-sender l =
    (l.flights.items ≡ map (flit_of l.parts l.slot) (take l.sender-index l.senders)) × (vec_len l.flights ≡ l.sender-index) × (length l.senders ≤ vec_capacity l.flights)
