-- What a tile counts in the sum over all tiles.
use Rattle.std.specs.Prelude.{ℕ, ◌+◌, ◌*◌}
use Rattle.tile_core.specs.Tile.{TileState}
use Rattle.report_text.specs.State.{tile_sum}

-- its sum, one time more than its number
unfoldable pub tile_share : TileState → ℕ
tile_share tile = (tile.number + 1) * tile_sum tile
