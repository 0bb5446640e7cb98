-- What is true of every tile at the end of a run.
use Rattle.std.specs.Prelude.{◌≡◌, List, length, All}
use Rattle.platform_model.specs.declared.platform.Platform.{Platform}
use Rattle.tile_core.specs.declared.station.Station.{Station}
use Rattle.tile_core.specs.Tile.{TileState}

-- a tile has the memory, the ports with their queues, the slot tables and the outputs of its platform
pub record IsMade (platform : Platform) (tile : TileState) : Type 0 where
  pub memory : length tile.memory ≡ platform.mem_bytes
  pub ports : length tile.ports ≡ platform.ports
  pub queues : All (λ port. port.queue ≡ platform.queue) tile.ports
  pub tables : length tile.tables ≡ platform.table_slots
  pub outputs : length tile.carried ≡ 7

-- so have the tiles of stations
abbrev pub AreMade : Platform → List Station → Type 0
AreMade platform stations = All (λ station. IsMade platform station.tile) stations
