-- A tile with its links: which links these are, and that what it did is its own run over what it took.
use Rattle.std.specs.Prelude.{◌≡◌, ℕ, ◌<◌, List, length, map, get_or, slice_get, Contains, All, Option, Some, IsSome}
use Rattle.std.specs.List.{range_with_len}
use Rattle.std.specs.Option.{option_and_then}
use Rattle.soc_base.specs.Port.{WordAndCredits, idle}
use Rattle.platform_model.specs.declared.link.Link.{Link}
use Rattle.bundle_model.specs.declared.world.World.{World}
use Rattle.bundle_model.specs.declared.world.LoadName.{LoadName}
use Rattle.bundle_model.specs.declared.world.Grant.{Grant}
use Rattle.lockstep.specs.Lockstep.{tile_run, run_puts}
use Rattle.flit_link.specs.Names.{LinkName}
use Rattle.flit_link.specs.Link.{IsNewOut, IsNewIn}
use Rattle.tile_core.specs.Tile.{TileState, fresh_tile}
use Rattle.tile_core.specs.Lockstep.{tile_hardware}
use Rattle.tile_core.specs.Wires.{Seen, out_seen, in_seen, but_flits, flits_at, ring_of, spot_of, spots, output_on, input_on}
use Rattle.tile_core.specs.declared.station.Station.{Station}

-- a station as contracts see it between two calls: its tile, and the ends of its links
pub record StationState : Type 0 where
  pub tile : TileState
  pub outs : List Seen
  pub ins : List Seen

-- what contracts see of a station
abbrev pub station_state : Station → StationState
station_state station = record
    { tile = station.tile; outs = map out_seen station.outs.items; ins = map in_seen station.ins.items }

-- how many tries of a slot there were, up to the greatest u64
abbrev pub tries_of : Station → ℕ
tries_of station = station.tries

-- how many tries in a row, up to the last, came to nothing, up to the greatest u64
abbrev pub still_of : Station → ℕ
still_of station = station.still

-- what never changes of a station: its tile's number, and which ends it has
pub record Ends : Type 0 where
  pub number : ℕ
  pub outs : List Seen
  pub ins : List Seen

-- these of a station: its ends are told as they were before any flit
abbrev pub ends_of : StationState → Ends
ends_of station = record
    { number = station.tile.number; outs = map but_flits station.outs; ins = map but_flits station.ins }

-- it is the same tile with the same ends, whatever it did since
abbrev pub KeepsEnds : StationState → StationState → Type 0
KeepsEnds old new = ends_of new ≡ ends_of old

-- the ends are those of the links that leave the tile and of those that enter it, in order of their numbers
pub record IsWired (links : List Link) (station : StationState) : Type 0 where
  pub outs : map spot_of station.outs ≡ spots (output_on station.tile.number) 0 links
  pub ins : map spot_of station.ins ≡ spots (input_on station.tile.number) 0 links

-- what was taken at the inputs, as the flits that the links into the tile carried slot by slot
abbrev pub came : List Seen → Link → ℕ → WordAndCredits
came ins link slot = get_or (flits_at ins link.input) slot idle

-- The tile is what it comes to by itself, by the grants, from its first slot over the flits that were taken
-- at its inputs, one of each in each of its slots; and into each of its links were set the flits that it
-- puts there in these slots.
pub record HasRun (world : World) (loads : List LoadName) (grants : List Grant) (station : StationState) : Type 0 where
  pub exists : station.tile.number < world.platform.tiles
  pub wired : IsWired world.platform.links station
  pub tile : station.tile
      ≡ tile_run (tile_hardware world loads) world.platform.links grants (came station.ins) station.tile.number
      station.tile.at
  pub taken : (link : Link) → Contains world.platform.links link → link.to ≡ station.tile.number
      → length (flits_at station.ins link.input) ≡ station.tile.at
  pub set : (link : Link) → Contains world.platform.links link → link.from ≡ station.tile.number
      → flits_at station.outs link.out
      ≡ map (run_puts (tile_hardware world loads) world.platform.links grants (came station.ins) link)
      (range_with_len 0 station.tile.at)

-- the ring that the station of a tile writes for a link of a number
abbrev pub written_ring : List StationState → ℕ → ℕ → Option LinkName
written_ring stations tile number = option_and_then (λ station. ring_of station.outs number) (slice_get stations tile)

-- and the ring that it reads for one
abbrev pub read_ring : List StationState → ℕ → ℕ → Option LinkName
read_ring stations tile number = option_and_then (λ station. ring_of station.ins number) (slice_get stations tile)

-- Each link is one ring, of which the tile that it leaves has the one end and the tile that it enters the
-- other.
abbrev pub AreLinked : List Link → List StationState → Type 0
AreLinked links stations = (number : ℕ) (link : Link) → slice_get links number ≡ Some link
    → IsSome (written_ring stations link.from number)
    × (read_ring stations link.to number ≡ written_ring stations link.from number)

-- all stations of a platform, in the order of their tiles, each of which has run by itself
pub record HaveRun (world : World) (loads : List LoadName) (grants : List Grant) (stations : List StationState)
    : Type 0 where
  pub in_order : map (λ station. station.tile.number) stations ≡ range_with_len 0 world.platform.tiles
  pub each : All (HasRun world loads grants) stations
  pub linked : AreLinked world.platform.links stations

-- a station before its first slot: on each link into it waits the idle flit of slot 0, and no end has seen
-- another flit
pub record IsFreshStation (station : Station) : Type 0 where
  pub outs : All (λ wire. IsNewOut wire.end) station.outs.items
  pub ins : All (λ wire. IsNewIn wire.end) station.ins.items
  pub tries : station.tries ≡ 0
  pub still : station.still ≡ 0

-- the stations of a platform before the first slot
pub record AreFreshStations (world : World) (loads : List LoadName) (stations : List Station) : Type 0 where
  pub tiles : map (λ station. station.tile) stations
      ≡ map (fresh_tile world loads) (range_with_len 0 world.platform.tiles)
  pub wired : All (λ station. IsWired world.platform.links (station_state station)) stations
  pub linked : AreLinked world.platform.links (map station_state stations)
  pub fresh : All IsFreshStation stations
