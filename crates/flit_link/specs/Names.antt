-- Which ring an end is of, as one value: two ends are of one ring where these are equal.
use denote.RawPtr.{Ptr}
use Rattle.std.specs.Global.{Global}
use Rattle.rtrb.specs.Shared.{Names}
use Rattle.rtrb.specs.declared.producer.Producer.{Producer}
use Rattle.rtrb.specs.declared.consumer.Consumer.{Consumer}

-- which ring an end belongs to: its words, its slots, its names and its heap
abbrev pub LinkName : Type 0
LinkName = Ptr × Ptr × Names × Global

module _ {T P : Type 0} where
  -- the ring that a writing end belongs to
  abbrev pub ring_of_producer : Producer T Global P → LinkName
  ring_of_producer ring = (ring.end.words, ring.end.slots, ring.end.names, ring.end.heap)

  -- the ring that a reading end belongs to
  abbrev pub ring_of_consumer : Consumer T Global P → LinkName
  ring_of_consumer ring = (ring.end.words, ring.end.slots, ring.end.names, ring.end.heap)
