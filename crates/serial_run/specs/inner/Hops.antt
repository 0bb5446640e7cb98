-- Where the two ends of a link are among the stations of a platform.
use Rattle.std.specs.Prelude.{◌≡◌, ◌≢◌, ℕ, ◌==◌, Bool, List, find, map, slice_get, Option, Some}
use Rattle.std.specs.Option.{option_and_then}
use Rattle.platform_model.specs.declared.link.Link.{Link}
use Rattle.flit_link.specs.declared.ends.LinkOut.{LinkOut}
use Rattle.flit_link.specs.declared.ends.LinkIn.{LinkIn}
use Rattle.flit_link.specs.Link.{AreEnds, AreInLine}
use Rattle.tile_core.specs.declared.wire.Wire.{Wire}
use Rattle.tile_core.specs.declared.station.Station.{Station}
use Rattle.tile_core.specs.Wires.{Seen}
use Rattle.tile_core.specs.Station.{StationState, Ends, ends_of}
use Rattle.serial_run.specs.declared.hops.Hop.{Hop}

-- an end into which flits are set is of the link of a number
abbrev pub is_out_of : ℕ → Wire LinkOut → Bool
is_out_of number wire = wire.link == number

-- the same of an end from which flits are taken
abbrev pub is_in_of : ℕ → Wire LinkIn → Bool
is_in_of number wire = wire.link == number

-- the end at a place of those of the links that leave a tile
abbrev pub out_at : List Station → ℕ → ℕ → Option (Wire LinkOut)
out_at stations tile place = option_and_then (λ station. slice_get station.outs.items place) (slice_get stations tile)

-- the end at a place of those of the links that enter a tile
abbrev pub in_at : List Station → ℕ → ℕ → Option (Wire LinkIn)
in_at stations tile place = option_and_then (λ station. slice_get station.ins.items place) (slice_get stations tile)

-- what never changes of stations
abbrev pub all_ends : List StationState → List Ends
all_ends stations = map ends_of stations

-- the same end without its flits, at a place of those into which flits are set
abbrev pub out_end : List Ends → ℕ → ℕ → Option Seen
out_end stations tile place = option_and_then (λ ends. slice_get ends.outs place) (slice_get stations tile)

-- the same at a place of those from which flits are taken
abbrev pub in_end : List Ends → ℕ → ℕ → Option Seen
in_end stations tile place = option_and_then (λ ends. slice_get ends.ins place) (slice_get stations tile)

-- the places are those of the two ends of the link of a number, which are those of one ring
pub record HasEnds (stations : List Ends) (number : ℕ) (hop : Hop) : Type 0 where
  pub out : Seen
  pub input : Seen
  pub out_is : out_end stations hop.from hop.out ≡ Some out
  pub input_is : in_end stations hop.to hop.input ≡ Some input
  pub out_link : out.link ≡ number
  pub input_link : input.link ≡ number
  pub ring : input.ring ≡ out.ring
  pub apart : hop.from ≢ hop.to

-- the same of places that are numbered as the links are
abbrev pub AllHaveEnds : List Ends → List Hop → Type 0
AllHaveEnds stations hops = (number : ℕ) (hop : Hop) → slice_get hops number ≡ Some hop → HasEnds stations number hop

-- and the tiles are those that the link leaves and enters
pub record IsHop (stations : List Ends) (number : ℕ) (link : Link) (hop : Hop) : Type 0 where
  pub from : hop.from ≡ link.from
  pub to : hop.to ≡ link.to
  pub ends : HasEnds stations number hop

-- of each link the places are there
abbrev pub AreHops : List Ends → List Link → List Hop → Type 0
AreHops stations links hops =
    (number : ℕ) (link : Link) → slice_get links number ≡ Some link
    → (hop : Hop) × (slice_get hops number ≡ Some hop) × IsHop stations number link hop

-- something holds of the two ends at places
abbrev pub AtEnds : (Wire LinkOut → Wire LinkIn → Type 0) → List Station → Hop → Type 0
AtEnds Holds stations hop =
    (sender : Wire LinkOut) (receiver : Wire LinkIn) → out_at stations hop.from hop.out ≡ Some sender
    → in_at stations hop.to hop.input ≡ Some receiver → Holds sender receiver

-- it holds of the two ends of each link
abbrev pub AllAtEnds : (Wire LinkOut → Wire LinkIn → Type 0) → List Station → List Hop → Type 0
AllAtEnds Holds stations hops = (number : ℕ) (hop : Hop) → slice_get hops number ≡ Some hop → AtEnds Holds stations hop

-- two ends are in line
abbrev pub StandInLine : Wire LinkOut → Wire LinkIn → Type 0
StandInLine sender receiver = AreInLine sender.end receiver.end

-- the ends of the link of a number can be found: the tile that it leaves has one, the tile that it enters has
-- one, and they are those of one ring
pub record CanFind (number : ℕ) (link : Link) (stations : List Station) : Type 0 where
  pub sender : Station
  pub receiver : Station
  pub out : Wire LinkOut
  pub input : Wire LinkIn
  pub apart : link.from ≢ link.to
  pub from : slice_get stations link.from ≡ Some sender
  pub to : slice_get stations link.to ≡ Some receiver
  pub out_is : find (is_out_of number) sender.outs.items ≡ Some out
  pub input_is : find (is_in_of number) receiver.ins.items ≡ Some input
  pub ends : AreEnds out.end input.end

-- so can those of all links
abbrev pub CanFindAll : List Link → List Station → Type 0
CanFindAll links stations =
    (number : ℕ) (link : Link) → slice_get links number ≡ Some link → CanFind number link stations
