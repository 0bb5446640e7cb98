-- Which channels inject in a slot, and what arrives in it.
use Rattle.std.specs.Prelude.{ℕ, ◌+◌, ◌==◌, List, [], ◌∷◌, Option, Some, None, find, if◌then◌else◌}
use Rattle.std.specs.List.{cons_option, list_any}
use Rattle.std.specs.Option.{option_and_then, option_map_or}
use Rattle.std.specs.Prelude.{Bool, length, slice_get}
use Rattle.soc_base.specs.Time.{is_among}
use Rattle.soc_base.specs.Port.{inject}
use Rattle.ni_port.specs.SizedPort.{SizedPort, after_inject, after_deliver}
use Rattle.bundle_model.specs.declared.bundle.Bundle.{Bundle}
use Rattle.bundle_model.specs.Ways.{Way, ways_of}
use Rattle.alone_model.specs.declared.exchange.Sender.{Sender}
use Rattle.alone_model.specs.declared.exchange.Arrival.{Arrival}
use Rattle.alone_model.specs.Network.{AppPart, Flying, is_end, port_of}

-- a channel that injects in the slots of this row, where it does
abbrev pub sender_of : ℕ → ℕ → Way → Option Sender
sender_of row number way =
    if is_among row way.slots then Some (record { number = number; from = way.from }) else None

-- those of these channels that do, for the channels from a number on
abbrev pub senders_of : ℕ → ℕ → List Way → List Sender
senders_of row number [] = []
senders_of row number (way ∷ ways) = cons_option (sender_of row number way) (senders_of row (number + 1) ways)

-- one of them leaves the port
abbrev pub leaves : List Sender → ℕ → ℕ → Bool
leaves senders tile port = list_any (λ s. is_end tile port s.from) senders

-- a port after their injections
abbrev pub after_leaving : List Sender → ℕ → ℕ → SizedPort → SizedPort
after_leaving senders tile port p = if leaves senders tile port then after_inject p else p

-- what a sender injects
abbrev pub flit_of : List AppPart → ℕ → Sender → Flying
flit_of parts slot s = record { number = s.number; since = slot; flit = (inject (port_of parts s.from)).0 }

-- a flit's arrival, where it is due in the slot
abbrev pub arrival_of : Bundle → ℕ → Flying → Option Arrival
arrival_of bundle slot f =
    option_and_then (λ way. if f.since + length way.path == slot then Some (record { to = way.to; flit = f.flit }) else None)
    (slice_get (ways_of bundle) f.number)

-- those of these flits that are due
abbrev pub arrivals_of : Bundle → ℕ → List Flying → List Arrival
arrivals_of bundle slot [] = []
arrivals_of bundle slot (f ∷ flying) = cons_option (arrival_of bundle slot f) (arrivals_of bundle slot flying)

-- a port after the arrivals
abbrev pub after_arriving : List Arrival → ℕ → ℕ → SizedPort → SizedPort
after_arriving arrivals tile port p =
    option_map_or (λ a. after_deliver a.flit p) (find (λ a. is_end tile port a.to) arrivals) p
