-- A port of a network interface with end-to-end credits (dAElite): words wait in a send queue until
-- the sender holds a credit for each, and every word that is taken from a receive queue gives a
-- credit back.
use Rattle.std.specs.Prelude.{ℕ, ◌+◌, ◌-◌, ◌==◌, List, [], ◌∷◌, ◌++◌, length, min, nat_lt, if◌then◌else◌, Option, Some, None}

-- what a link carries in one slot
pub record WordAndCredits : Type 0 where
  pub word : Option ℕ
  pub credits : ℕ

-- neither a word nor credits
abbrev pub idle : WordAndCredits
idle = record { word = None; credits = 0 }

-- the words that wait to be sent and those that were received, the oldest first; the words that may
-- still be sent (`credit`); the words that were taken and not yet told to the sender (`owed`)
pub record PortState : Type 0 where
  pub send : List ℕ
  pub recv : List ℕ
  pub credit : ℕ
  pub owed : ℕ

-- a port that holds no word and owes no credit
abbrev pub empty_port : ℕ → PortState
empty_port credit = record { send = []; recv = []; credit = credit; owed = 0 }

-- a port when its application is granted, with `queue` places in each queue
abbrev pub granted_port : ℕ → PortState
granted_port queue = empty_port queue

-- a port that no application holds
abbrev pub free_port : PortState
free_port = empty_port 0

-- a word joins the send queue; none where the queue is full
abbrev pub put : ℕ → ℕ → PortState → Option PortState
put queue word p = if length p.send == queue then None else Some (record p { send = p.send ++ word ∷ [] })

-- the first of these received words, and the port with the others
abbrev pub take_from : List ℕ → PortState → Option (ℕ × PortState)
take_from [] p = None
take_from (word ∷ words) p = Some (word, record p { recv = words; owed = p.owed + 1 })

-- the oldest received word and the port without it; none where no word was received
abbrev pub take_word : PortState → Option (ℕ × PortState)
take_word p = take_from p.recv p

-- the flit with the first of these waiting words, and the port with the others
abbrev pub inject_from : List ℕ → PortState → WordAndCredits × PortState
inject_from [] p = (record { word = None; credits = p.owed }, record p { owed = 0 })
inject_from (word ∷ words) p =
    (record { word = Some word; credits = p.owed }, record p { send = words; credit = p.credit - 1; owed = 0 })

-- the flit that the port injects, and the port after it: the oldest word that waits, where the port
-- has a credit for it, and all credits that it owes
abbrev pub inject : PortState → WordAndCredits × PortState
inject p = inject_from (if p.credit == 0 then [] else p.send) p

-- the port after a word reached it, if one did: it joins the receive queue, or is dropped
abbrev pub receive : ℕ → Option ℕ → PortState → PortState
receive queue None p = p
receive queue (Some word) p =
    if nat_lt (p.owed + length p.recv) queue then record p { recv = p.recv ++ word ∷ [] } else p

-- the port after a flit reached it: its word joins the receive queue, or is dropped where `queue`
-- words are held or owed, and its credits are added, up to `queue`
abbrev pub deliver : ℕ → WordAndCredits → PortState → PortState
deliver queue flit p = record (receive queue flit.word p) { credit = min (p.credit + flit.credits) queue }
