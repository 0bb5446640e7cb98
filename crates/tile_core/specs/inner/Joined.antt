-- Stations to which the ends of links are given, link by link.
use Rattle.std.specs.Prelude.{◌≡◌, ℕ, ◌+◌, ◌<◌, List, [], ◌∷◌, ◌++◌, Option, Some, None, map, length, All}
use Rattle.std.specs.List.{range_with_len}
use Rattle.platform_model.specs.declared.link.Link.{Link}
use Rattle.flit_link.specs.Names.{LinkName}
use Rattle.tile_core.specs.Tile.{TileState}
use Rattle.tile_core.specs.Wires.{Seen, output_on, input_on}
use Rattle.tile_core.specs.Station.{StationState, station_state, IsFreshStation}
use Rattle.tile_core.specs.declared.station.Station.{Station}

-- a link and the ring that was made for it
pub record MadeLink : Type 0 where
  pub link : Link
  pub ring : LinkName

-- an end before any flit
abbrev pub fresh_end : ℕ → ℕ → LinkName → Seen
fresh_end number place ring = record { link = number; place = place; ring = ring; flits = [] }

-- one link more before these ends, with its fresh end, if it has a place at the tile
abbrev pub ends_from : ℕ → LinkName → Option ℕ → List Seen → List Seen
ends_from number ring None ends = ends
ends_from number ring (Some place) ends = fresh_end number place ring ∷ ends

-- of links that are numbered from `number` on: the ends of those that have a place, in their order
abbrev pub fresh_ends : (Link → Option ℕ) → ℕ → List MadeLink → List Seen
fresh_ends place number [] = []
fresh_ends place number (made ∷ others) =
    ends_from number made.ring (place made.link) (fresh_ends place (number + 1) others)

-- a station to which the ends of these links at its tile were given
abbrev pub joined : List MadeLink → TileState → StationState
joined made tile = record {
  tile = tile;
  outs = fresh_ends (output_on tile.number) 0 made;
  ins = fresh_ends (input_on tile.number) 0 made;
}

-- stations of these tiles, in order of their numbers, to which the ends of these links were given
pub record AreJoined (tiles : List TileState) (made : List MadeLink) (stations : List Station) : Type 0 where
  pub states : map station_state stations ≡ map (joined made) tiles
  pub fresh : All IsFreshStation stations

-- the tiles of a platform, in order of their numbers
abbrev pub AreNumbered : List TileState → Type 0
AreNumbered tiles = map (λ tile. tile.number) tiles ≡ range_with_len 0 (length tiles)

-- both ends of a link stand at one of so many tiles, at an output or input of its router
pub record IsBetween (tiles : ℕ) (link : Link) : Type 0 where
  pub from : link.from < tiles
  pub out : link.out < 7
  pub to : link.to < tiles
  pub input : link.input < 7

-- a station to which the writing end of one link more was given, if the link leaves its tile
abbrev pub with_out : ℕ → LinkName → Link → StationState → StationState
with_out number ring link station = record station {
  outs = station.outs ++ ends_from number ring (output_on station.tile.number link) [];
}

-- and one to which the reading end was given, if the link enters its tile
abbrev pub with_in : ℕ → LinkName → Link → StationState → StationState
with_in number ring link station = record station {
  ins = station.ins ++ ends_from number ring (input_on station.tile.number link) [];
}
