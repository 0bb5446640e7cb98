-- What the network does for an application alone: its channels inject flits, which are on their way from
-- link to link and are delivered when they are due.
use Rattle.std.specs.Prelude.{ℕ, ◌+◌, ◌%◌, Bool, false, ◌&&◌, ◌==◌, List, [], ◌∷◌, find, length, slice_get, if◌then◌else◌}
use Rattle.std.specs.List.{list_any}
use Rattle.std.specs.Option.{option_map_or}
use Rattle.soc_base.specs.Time.{is_among}
use Rattle.soc_base.specs.Port.{WordAndCredits, PortState, idle, free_port, inject}
use Rattle.ni_port.specs.SizedPort.{SizedPort, after_inject, after_deliver}
use Rattle.platform_model.specs.declared.platform.Platform.{Platform}
use Rattle.bundle_model.specs.declared.bundle.End.{End}
use Rattle.bundle_model.specs.declared.bundle.Part.{Part}
use Rattle.bundle_model.specs.declared.bundle.Bundle.{Bundle}
use Rattle.bundle_model.specs.Ways.{Way, ways_of}
use Rattle.part_model.specs.Part.{PartState}
pub use Rattle.tile_mmio.specs.Ports.{each_port}

-- a part of the bundle, and what it is between two cycles
pub record AppPart : Type 0 where
  pub part : Part
  pub state : PartState

-- A flit on its way: the number of its channel among the bundle's, and the slot in which it was injected.
-- On a path of h links it is on the j-th in slot `since + j`, and is due in slot `since + h`.
pub record Flying : Type 0 where
  pub number : ℕ
  pub since : ℕ
  pub flit : WordAndCredits

-- a part with its ports changed by their tile and numbers
abbrev pub with_ports : (ℕ → ℕ → SizedPort → SizedPort) → AppPart → AppPart
with_ports change p =
    record p { state = record p.state { ports = each_port (change p.part.tile) p.part.ports p.state.ports } }

-- the end is this port of this tile
abbrev pub is_end : ℕ → ℕ → End → Bool
is_end tile port end = end.tile == tile && end.port == port

-- a channel that injects in the slot leaves the port
abbrev pub injects : Platform → Bundle → ℕ → ℕ → ℕ → Bool
injects platform bundle slot tile port =
    list_any (λ way. is_end tile port way.from && is_among (slot % platform.table_slots) way.slots) (ways_of bundle)

-- a port after the injections of a slot
abbrev pub injected : Platform → Bundle → ℕ → ℕ → ℕ → SizedPort → SizedPort
injected platform bundle slot tile port p = if injects platform bundle slot tile port then after_inject p else p

-- the port of this number among a part's ports; one that is free where there is none
abbrev pub port_among : List ℕ → List SizedPort → ℕ → PortState
port_among (one ∷ numbers) (p ∷ ports) number = if one == number then p.port else port_among numbers ports number
port_among (one ∷ numbers) [] number = free_port
port_among [] ports number = free_port

-- the port at an end
abbrev pub port_of : List AppPart → End → PortState
port_of parts end =
    option_map_or (λ p. port_among p.part.ports p.state.ports end.port) (find (λ p. p.part.tile == end.tile) parts)
    free_port

-- the flits that channels inject in a slot, for the channels from a number on
abbrev pub new_flits : Platform → List AppPart → ℕ → ℕ → List Way → List Flying
new_flits platform parts slot number [] = []
new_flits platform parts slot number (way ∷ ways) =
    let rest = new_flits platform parts slot (number + 1) ways in
    if is_among (slot % platform.table_slots) way.slots
    then record { number = number; since = slot; flit = (inject (port_of parts way.from)).0 } ∷ rest
    else rest

-- the flit is due in the slot, at the end of its channel's path
abbrev pub is_due : Bundle → ℕ → Flying → Bool
is_due bundle slot f = option_map_or (λ way. f.since + length way.path == slot) (slice_get (ways_of bundle) f.number) false

-- and its channel ends at this port
abbrev pub lands : Bundle → ℕ → ℕ → ℕ → Flying → Bool
lands bundle slot tile port f =
    option_map_or (λ way. is_end tile port way.to && f.since + length way.path == slot)
    (slice_get (ways_of bundle) f.number) false

-- a port after the deliveries of a slot: no two channels end at one port
abbrev pub delivered : Bundle → List Flying → ℕ → ℕ → ℕ → SizedPort → SizedPort
delivered bundle flying slot tile port p =
    option_map_or (λ f. after_deliver f.flit p) (find (lands bundle slot tile port) flying) p

-- the flit on a link of a channel's path in a slot, by the link's place in the path, counted from 0; idle
-- where there is none
abbrev pub flit_on : List Flying → ℕ → ℕ → ℕ → WordAndCredits
flit_on flying slot number hop =
    option_map_or (λ f. f.flit) (find (λ f. f.number == number && f.since + hop + 1 == slot) flying) idle
