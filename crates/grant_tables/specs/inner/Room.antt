-- What installing entries one after the other asks of tables.
use Rattle.std.specs.Prelude.{◌≡◌, ◌≢◌, ℕ, List, All, AllPairs, None}
use Rattle.tdm_network.specs.declared.entries.TableEntry.{TableEntry}
use Rattle.tdm_network.specs.declared.rows.Row.{Row}
use Rattle.tdm_network.specs.Spots.{spots_of, spot_of, IsLaidOut, IsInRange}

-- the entries are in range, each has a place that is free, and no two have one place
pub record HaveRoom (table_slots : ℕ) (entries : List TableEntry) (rows : List Row) : Type 0 where
  pub laid_out : IsLaidOut table_slots rows
  pub in_range : All (IsInRange table_slots) entries
  pub free : All (λ entry. spots_of rows (spot_of entry) ≡ None) entries
  pub apart : AllPairs (λ one other. spot_of one ≢ spot_of other) entries
