-- What the code keeps of a tile's tables.
use Rattle.std.specs.Prelude.{◌≡◌, ◌<◌, ◌≤◌, Bool, false, List, length}
use Rattle.tdm_network.specs.declared.rows.Row.{Row}
use Rattle.tdm_network.specs.Rows.{free_rows}

-- there are 1 to 64 rows, and where they aren't marked as used, every place is free
pub record IsMarked (used : Bool) (rows : List Row) : Type 0 where
  pub some : 0 < length rows
  pub few : length rows ≤ 64
  pub free : used ≡ false → rows ≡ free_rows (length rows)
