-- What contracts see of rows with fixed rooms.
use Rattle.std.specs.Prelude.{ℕ, List}
use Rattle.vep_manager.specs.declared.owners.held.Held.{Held}

-- the entries of each row, and how many it has room for
pub record Shelf : Type 0 where
  pub rows : List (List Held)
  pub rooms : List ℕ
