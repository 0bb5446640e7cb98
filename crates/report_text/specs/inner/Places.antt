-- The text of one place of a tile's slot tables.
use Rattle.std.specs.Prelude.{ℕ, List, []}
use Rattle.std.specs.Option.{option_map_or}
use Rattle.tdm_network.specs.Spots.{told}
use Rattle.tile_core.specs.Tile.{TileState}
use Rattle.report_text.specs.State.{place_line}

-- the line of a place, where it is occupied
abbrev pub place_text : TileState → ℕ → ℕ → ℕ → List ℕ
place_text tile table row slot =
    option_map_or (λ place. place_line tile.number place.0 place.1) (told table row slot tile.tables) []
