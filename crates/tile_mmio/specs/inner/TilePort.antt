-- The port of a number on the tile.
use Rattle.std.specs.Prelude.{ℕ, slice_get, Option, option_map}
use Rattle.part_model.specs.Answers.{BusState, NumberedPort}

-- the tile's port of this number, with its number
abbrev pub tile_port : BusState → ℕ → Option NumberedPort
tile_port b number = option_map (λ port. record { number = number; port = port }) (slice_get b.ports number)
