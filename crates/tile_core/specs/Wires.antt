-- The ends of a tile's links, and what of them contracts see between two calls.
use Rattle.std.specs.Prelude.{ℕ, ◌+◌, ◌==◌, List, [], ◌∷◌, ◌++◌, find, fold, get_or, slice_set, replicate, option_map, if◌then◌else◌, Option, Some, None, is_some, is_none}
use Rattle.std.specs.Option.{option_map_or}
use Rattle.soc_base.specs.Port.{WordAndCredits, idle}
use Rattle.platform_model.specs.declared.link.Link.{Link}
use Rattle.flit_link.specs.Names.{LinkName}
use Rattle.flit_link.specs.Link.{flits_set, flits_taken, sending, receiving, name_of_out, name_of_in}
use Rattle.flit_link.specs.declared.ends.LinkOut.{LinkOut}
use Rattle.flit_link.specs.declared.ends.LinkIn.{LinkIn}
use Rattle.tile_core.specs.declared.wire.Wire.{Wire}

-- An end of a link at a tile: the link's number, the output or input that it stands at, its ring, and the
-- flits that were set or taken so far. What waits in a latch or stands in the ring isn't seen.
pub record Seen : Type 0 where
  pub link : ℕ
  pub place : ℕ
  pub ring : LinkName
  pub flits : List WordAndCredits

-- an end into which the tile sets its flits
abbrev pub out_seen : Wire LinkOut → Seen
out_seen wire = record
    { link = wire.link; place = wire.place; ring = name_of_out wire.end; flits = flits_set wire.end }

-- an end from which it takes flits
abbrev pub in_seen : Wire LinkIn → Seen
in_seen wire = record
    { link = wire.link; place = wire.place; ring = name_of_in wire.end; flits = flits_taken wire.end }

-- the flits of the end at an output or input, the oldest first; none where no link stands there
abbrev pub flits_at : List Seen → ℕ → List WordAndCredits
flits_at ends place = option_map_or (λ seen. seen.flits) (find (λ seen. seen.place == place) ends) []

-- the ring of a link, by the end of it among these
abbrev pub ring_of : List Seen → ℕ → Option LinkName
ring_of ends number = option_map (λ seen. seen.ring) (find (λ seen. seen.link == number) ends)

-- an end as it was before any flit
abbrev pub but_flits : Seen → Seen
but_flits seen = record seen { flits = [] }

-- which link an end is of, and at which output or input of the tile it stands
pub record Spot : Type 0 where
  pub link : ℕ
  pub place : ℕ

-- the link of an end, and the output or input at which the end stands
abbrev pub spot_of : Seen → Spot
spot_of seen = record { link = seen.link; place = seen.place }

-- the output of a tile that a link leaves from, if it leaves the tile
abbrev pub output_on : ℕ → Link → Option ℕ
output_on tile link = if link.from == tile then Some link.out else None

-- the input of a tile that a link enters, if it enters the tile
abbrev pub input_on : ℕ → Link → Option ℕ
input_on tile link = if link.to == tile then Some link.input else None

-- one link more before these, with its number and its place, if it has one
abbrev pub spots_from : ℕ → Option ℕ → List Spot → List Spot
spots_from number None spots = spots
spots_from number (Some place) spots = record { link = number; place = place } ∷ spots

-- of links that are numbered from `number` on: those that have a place, each with it, in their order
abbrev pub spots : (Link → Option ℕ) → ℕ → List Link → List Spot
spots place number [] = []
spots place number (link ∷ links) = spots_from number (place link) (spots place (number + 1) links)

-- the first link whose flit still waits to be pushed
abbrev pub first_stuck : List (Wire LinkOut) → Option ℕ
first_stuck outs = option_map (λ wire. wire.link) (find (λ wire. is_some (sending wire.end)) outs)

-- the first link without a flit that waits to be taken
abbrev pub first_missing : List (Wire LinkIn) → Option ℕ
first_missing ins = option_map (λ wire. wire.link) (find (λ wire. is_none (receiving wire.end)) ins)

-- the flit that waits at a link, if one does
abbrev pub waiting : Option WordAndCredits → WordAndCredits
waiting None = idle
waiting (Some flit) = flit

-- what waits at the inputs 0 to 6; idle where no link enters
abbrev pub brought : List (Wire LinkIn) → List WordAndCredits
brought ins = fold (λ inputs wire. slice_set inputs wire.place (waiting (receiving wire.end))) (replicate 7 idle) ins

-- an end from which the flit that waits was taken
abbrev pub taken_more : Wire LinkIn → Seen
taken_more wire = record (in_seen wire) { flits = flits_taken wire.end ++ waiting (receiving wire.end) ∷ [] }

-- an end into which the flit of its output was set
abbrev pub set_on : List WordAndCredits → Seen → Seen
set_on outputs seen = record seen { flits = seen.flits ++ get_or outputs seen.place idle ∷ [] }
