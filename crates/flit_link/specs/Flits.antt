-- The flits of a ring and of a latch.
use Rattle.std.specs.Prelude.{ℕ, ◌-◌, List, [], ◌∷◌, map, take, length, Option, Some, None}
use Rattle.soc_base.specs.Port.{WordAndCredits, idle}
use Rattle.rtrb.specs.Ring.{sent, received, known_items}
use Rattle.rtrb.specs.declared.producer.Producer.{Producer}
use Rattle.rtrb.specs.declared.consumer.Consumer.{Consumer}
use Rattle.flit_link.specs.Packing.{flit_of}

-- the flit in a latch, if there is one
abbrev pub latched : Option WordAndCredits → List WordAndCredits
latched None = []
latched (Some flit) = flit ∷ []

-- the flits that came, without the last one where a latch holds it
abbrev pub but_latched : Option WordAndCredits → List WordAndCredits → List WordAndCredits
but_latched None flits = flits
but_latched (Some flit) flits = take (length flits - 1) flits

module _ {A P : Type 0} where
  -- the flits that were pushed, the oldest first
  abbrev pub pushed : Producer ℕ A P → List WordAndCredits
  pushed ring = map flit_of (sent ring)

  -- the flits that came to the receiving latch: the idle flit of slot 0, and those that were popped
  abbrev pub arrived : Consumer ℕ A P → List WordAndCredits
  arrived ring = idle ∷ map flit_of (received ring)

  -- the flits that are known to stand in the ring
  abbrev pub known : Consumer ℕ A P → List WordAndCredits
  known ring = map flit_of (known_items ring)
