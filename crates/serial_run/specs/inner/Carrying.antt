-- A flit that goes from one station to another on one thread.
use Rattle.std.specs.Prelude.{◌≡◌, ◌≢◌, ℕ, ◌<◌, ◌≤◌, Bool, List, length, slice_get, slice_set, Some, None, IsSome, IsTrue}
use Rattle.flit_link.specs.declared.ends.LinkOut.{LinkOut}
use Rattle.flit_link.specs.declared.ends.LinkIn.{LinkIn}
use Rattle.flit_link.specs.Link.{flits_set, flits_taken, sending, receiving, AreEnds, AreInLine}
use Rattle.tile_core.specs.declared.wire.Wire.{Wire}
use Rattle.tile_core.specs.declared.station.Station.{Station}
use Rattle.tile_core.specs.Wires.{out_seen, in_seen}
use Rattle.serial_run.specs.declared.hops.Hop.{Hop}

-- two ends of one link, which are in line where that is said
pub record CanCarry (in_line : Bool) (sender : Wire LinkOut) (receiver : Wire LinkIn) : Type 0 where
  pub ends : AreEnds sender.end receiver.end
  pub line : IsTrue in_line → AreInLine sender.end receiver.end

-- Ends of one link that are in line, at which a flit waits to be taken unless the writer is behind, and none
-- waits to be pushed unless the reader is behind.
pub record IsCarried (sender : Wire LinkOut) (receiver : Wire LinkIn) : Type 0 where
  pub line : AreInLine sender.end receiver.end
  pub waits : length (flits_taken receiver.end) ≤ length (flits_set sender.end) → IsSome (receiving receiver.end)
  pub free : length (flits_set sender.end) ≤ length (flits_taken receiver.end) → sending sender.end ≡ None

-- what is seen of two ends stays, and they are carried
pub record Carries (sender sender_new : Wire LinkOut) (receiver receiver_new : Wire LinkIn) : Type 0 where
  pub sender_seen : out_seen sender_new ≡ out_seen sender
  pub receiver_seen : in_seen receiver_new ≡ in_seen receiver
  pub carried : IsCarried sender_new receiver_new

-- the same at places of two lists, in which all else stays
pub record CarriesAt (outs outs_new : List (Wire LinkOut)) (out : ℕ) (ins ins_new : List (Wire LinkIn)) (input : ℕ)
    : Type 0 where
  pub sender : Wire LinkOut
  pub receiver : Wire LinkIn
  pub outs_are : outs_new ≡ slice_set outs out sender
  pub ins_are : ins_new ≡ slice_set ins input receiver
  pub carries : (s : Wire LinkOut) (r : Wire LinkIn) → slice_get outs out ≡ Some s → slice_get ins input ≡ Some r
      → Carries s sender r receiver

-- a flit can be carried between the ends at the places of two stations, which have so many ends
pub record CanCarryStations (in_line : Bool) (hop : Hop) (sender receiver : Station) : Type 0 where
  pub out_within : hop.out < length sender.outs.items
  pub input_within : hop.input < length receiver.ins.items
  pub can : (s : Wire LinkOut) (r : Wire LinkIn) → slice_get sender.outs.items hop.out ≡ Some s
      → slice_get receiver.ins.items hop.input ≡ Some r → CanCarry in_line s r

-- the same between two stations, of which all else stays
pub record CarriesStations (hop : Hop) (sender sender_new receiver receiver_new : Station) : Type 0 where
  pub carries : CarriesAt sender.outs.items sender_new.outs.items hop.out receiver.ins.items receiver_new.ins.items
      hop.input
  pub sender_tile : sender_new.tile ≡ sender.tile
  pub sender_ins : sender_new.ins ≡ sender.ins
  pub receiver_tile : receiver_new.tile ≡ receiver.tile
  pub receiver_outs : receiver_new.outs ≡ receiver.outs

-- a flit can be carried over the link between two of these stations
pub record CanCarryLink (in_line : Bool) (hop : Hop) (stations : List Station) : Type 0 where
  pub from : hop.from < length stations
  pub to : hop.to < length stations
  pub apart : hop.from ≢ hop.to
  pub can : (s r : Station) → slice_get stations hop.from ≡ Some s → slice_get stations hop.to ≡ Some r
      → CanCarryStations in_line hop s r

-- the same in a list of stations, of which all others stay
pub record CarriesLink (hop : Hop) (stations stations_new : List Station) : Type 0 where
  pub sender : Station
  pub receiver : Station
  pub stations_are : stations_new ≡ slice_set (slice_set stations hop.from sender) hop.to receiver
  pub carries : (s r : Station) → slice_get stations hop.from ≡ Some s → slice_get stations hop.to ≡ Some r
      → CarriesStations hop s sender r receiver
