-- What a tile is to the machine: a state that goes on slot by slot, takes a flit at each input and puts one
-- on each output.
use Rattle.std.specs.Prelude.{ℕ, List}
use Rattle.bundle_model.specs.declared.world.Grant.{Grant}

-- the tile of a number before its first slot; its next slot; the tile after that slot, by the grants and the
-- flits at its inputs 0 to 6; the flits that it puts on its outputs 0 to 6 for the slot after; and the flit
-- that a link carries where nothing was put on it
pub record Hardware (Tile Flit : Type 0) : Type 0 where
  pub fresh : ℕ → Tile
  pub at : Tile → ℕ
  pub after : List Grant → List Flit → Tile → Tile
  pub puts : List Grant → List Flit → Tile → List Flit
  pub idle : Flit
