-- What a station lacks for its next slot, and what a try of it comes to.
use Rattle.std.specs.Prelude.{◌≡◌, ℕ, ◌+◌, ◌-◌, ◌^◌, ◌<◌, nat_le, min, List, map, if◌then◌else◌, find, is_some, is_none, Option, Some, None, IfSome, IsSome, All, length, slice_get}
use Rattle.bundle_model.specs.declared.world.World.{World}
use Rattle.bundle_model.specs.declared.world.Grant.{Grant}
use Rattle.bundle_model.specs.declared.world.Schedule.{Schedule}
use Rattle.flit_link.specs.declared.ends.LinkOut.{LinkOut}
use Rattle.flit_link.specs.declared.ends.LinkIn.{LinkIn}
use Rattle.flit_link.specs.Link.{sending, receiving, flits_known, places_known, AreInLine}
use Rattle.tile_core.specs.declared.wire.Wire.{Wire}
use Rattle.tile_core.specs.declared.turn.Lack.{Lack}
use Rattle.tile_core.specs.declared.turn.Lack.TheVariants.{Fence, Out, In}
use Rattle.tile_core.specs.declared.turn.Turn.{Turn}
use Rattle.tile_core.specs.declared.turn.Turn.TheVariants.{Moved, NotYet}
use Rattle.tile_core.specs.declared.station.Station.{Station}
use Rattle.tile_core.specs.Slot.{tile_slot, slot_outputs}
use Rattle.tile_core.specs.Wires.{in_seen, first_stuck, first_missing, brought, taken_more, set_on}
use Rattle.tile_core.specs.Station.{StationState, station_state}

-- what a tile lacks where a link into it has no flit, if there is such a link
abbrev pub lack_in : Option ℕ → Option Lack
lack_in None = None
lack_in (Some link) = Some (In link)

-- what it lacks where a flit still waits to be pushed into a link; where none does, what is judged next
abbrev pub lack_out : Option ℕ → Option Lack → Option Lack
lack_out None next = next
lack_out (Some link) next = Some (Out link)

-- what a tile at a slot lacks, in the order in which it is judged, by its links after they were tried: the
-- slot lies at or above the horizon, a flit that was set still waits to be pushed, a flit is missing
abbrev pub lack_of : ℕ → ℕ → List (Wire LinkOut) → List (Wire LinkIn) → Option Lack
lack_of horizon at outs ins =
    if nat_le horizon at then Some Fence else lack_out (first_stuck outs) (lack_in (first_missing ins))

-- a link is lacking only where nothing is known of room in its ring, or of a flit in it
abbrev pub IsTrueLack : Lack → List (Wire LinkOut) → List (Wire LinkIn) → Type 0
IsTrueLack Fence outs ins = Unit {0}
IsTrueLack (Out link) outs ins =
    IfSome (find (λ wire. is_some (sending wire.end)) outs) (λ wire. places_known wire.end ≡ 0)
IsTrueLack (In link) outs ins =
    IfSome (find (λ wire. is_none (receiving wire.end)) ins) (λ wire. length (flits_known wire.end) ≡ 0)

-- one slot of a station, over the flits that wait at these ends: each is taken, and into each link is set
-- what the tile puts on its output
pub record Advances (world : World) (grants : List Grant) (ins : List (Wire LinkIn)) (old new : StationState)
    : Type 0 where
  pub tile : new.tile ≡ tile_slot world grants (brought ins) old.tile
  pub taken : new.ins ≡ map taken_more ins
  pub set : new.outs ≡ map (set_on (slot_outputs world grants (brought ins) old.tile)) old.outs

-- a slot was done below the horizon, with a flit at each input once the links were tried
pub record Moves (world : World) (schedule : Schedule) (old new : StationState) : Type 0 where
  pub tried : List (Wire LinkIn)
  pub below : old.tile.at < schedule.horizon
  pub same : map in_seen tried ≡ old.ins
  pub waits : first_missing tried ≡ None
  pub advances : Advances world schedule.grants.items tried old new

-- nothing was done, for what the tile lacks
pub record Stays (schedule : Schedule) (old : StationState) (new : Station) (lack : Lack) : Type 0 where
  pub same : station_state new ≡ old
  pub lack_is : lack_of schedule.horizon old.tile.at new.outs.items new.ins.items ≡ Some lack
  pub true_lack : IsTrueLack lack new.outs.items new.ins.items

-- every flit that was set was offered to its ring: one that still waits was handed back
abbrev pub AreOffered : List (Wire LinkOut) → Type 0
AreOffered outs = All (λ wire. IsSome (sending wire.end) → places_known wire.end ≡ 0) outs

-- what a try of a slot comes to
abbrev pub TriesSlot : World → Schedule → Station → Station → Turn → Type 0
TriesSlot world schedule old new Moved =
    Moves world schedule (station_state old) (station_state new) × AreOffered new.outs.items
TriesSlot world schedule old new (NotYet lack) = Stays schedule (station_state old) new lack

-- the count of tries in a row that came to nothing, after one more
abbrev pub still_after : ℕ → Turn → ℕ
still_after still Moved = 0
still_after still (NotYet lack) = min (still + 1) (2 ^ 64 - 1)

-- a station can do its slot: a flit waits at each input, and none waits to be pushed
pub record CanAdvance (station : Station) : Type 0 where
  pub waits : first_missing station.ins.items ≡ None
  pub free : first_stuck station.outs.items ≡ None

-- the same end at two times, and still in line with every other end with which it was
abbrev pub StaysInLine : Wire LinkIn → Wire LinkIn → Type 0
StaysInLine old new = (out : LinkOut) → AreInLine out old.end → AreInLine out new.end

-- the same of a writing end
abbrev pub WritesInLine : Wire LinkOut → Wire LinkOut → Type 0
WritesInLine old new = (into : LinkIn) → AreInLine old.end into → AreInLine new.end into

-- each end of a station is in line with the ends with which it was
pub record KeepsLines (old new : Station) : Type 0 where
  pub ins : (place : ℕ) (before after : Wire LinkIn) → slice_get old.ins.items place ≡ Some before
      → slice_get new.ins.items place ≡ Some after → StaysInLine before after
  pub outs : (place : ℕ) (before after : Wire LinkOut) → slice_get old.outs.items place ≡ Some before
      → slice_get new.outs.items place ≡ Some after → WritesInLine before after
