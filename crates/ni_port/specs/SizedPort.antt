-- A port of a network interface, with the size of its queues.
use Rattle.std.specs.Prelude.{ℕ, ◌+◌, ◌<◌, ◌≤◌, length, unwrap_or}
use Rattle.std.specs.Option.{option_map_or}
use Rattle.soc_base.specs.Port.{PortState, WordAndCredits, granted_port, put, take_word, inject, deliver}

-- the most words that each of the two queues holds, and the port
pub record SizedPort : Type 0 where
  pub queue : ℕ
  pub port : PortState

-- the port in another state
abbrev pub in_state : SizedPort → PortState → SizedPort
in_state sized state = record sized { port = state }

-- after a word is put: as it was where the send queue is full
abbrev pub after_put : ℕ → SizedPort → SizedPort
after_put word sized = in_state sized (unwrap_or (put sized.queue word sized.port) sized.port)

-- after the oldest received word is taken: as it was where there is none
abbrev pub after_take : SizedPort → SizedPort
after_take sized = in_state sized (option_map_or (λ taken. taken.1) (take_word sized.port) sized.port)

-- after it injected
abbrev pub after_inject : SizedPort → SizedPort
after_inject sized = in_state sized (inject sized.port).1

-- after a flit reached it
abbrev pub after_deliver : WordAndCredits → SizedPort → SizedPort
after_deliver flit sized = in_state sized (deliver sized.queue flit sized.port)

-- a port when its application is granted, with so many places in each queue
abbrev pub granted_sized : ℕ → SizedPort
granted_sized queue = record { queue = queue; port = granted_port queue }

-- What every port keeps: it never holds more than its queues have places for, its credit is never above
-- what the far end has places for, and each word that it holds or owes a credit for has a place.
pub record IsWithin (sized : SizedPort) : Type 0 where
  pub some : 0 < sized.queue
  pub most : sized.queue ≤ 63
  pub send : length sized.port.send ≤ sized.queue
  pub recv : sized.port.owed + length sized.port.recv ≤ sized.queue
  pub credit : sized.port.credit ≤ sized.queue
