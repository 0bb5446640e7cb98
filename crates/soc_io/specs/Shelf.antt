-- Files in memory, of which listed reads fail.
use Rattle.std.specs.Prelude.{ℕ, Bool, List, if◌then◌else◌}
use Rattle.soc_base.specs.Time.{is_among}
use Rattle.soc_io.specs.Counts.{one_more}
use Rattle.soc_io.specs.Reading.{Held}

-- the files, the numbers of the reads that fail, the first read being number 1, the number of reads
-- so far, and the count of faults
pub record Shelf : Type 0 where
  pub held : Held
  pub fails : List ℕ
  pub calls : ℕ
  pub faults : ℕ

-- whether the next read is one that fails
abbrev pub shelf_fails : Shelf → Bool
shelf_fails s = is_among (one_more s.calls) s.fails

-- the files after a read: a fault is counted where the read is one that fails, and nowhere else
abbrev pub shelf_after : Shelf → Shelf
shelf_after s = record s { calls = one_more s.calls; faults = if shelf_fails s then one_more s.faults else s.faults }
