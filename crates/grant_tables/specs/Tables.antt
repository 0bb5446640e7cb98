-- The slot tables of a tile under grants: the entries of those that end in a slot leave, and those of the
-- grants that begin in it are installed.
use Rattle.std.specs.Prelude.{◌≡◌, ℕ, true, List, filter, fold, slice_get, Some}
use Rattle.soc_base.specs.declared.label.Label.{Label}
use Rattle.bundle_model.specs.declared.world.World.{World}
use Rattle.bundle_model.specs.declared.world.Grant.{Grant}
use Rattle.bundle_model.specs.Grants.{stands_at}
use Rattle.tdm_network.specs.declared.entries.Entry.{Entry}
use Rattle.tdm_network.specs.declared.entries.TableEntry.{TableEntry}
use Rattle.tdm_network.specs.declared.rows.Row.{Row}
use Rattle.tdm_network.specs.Rows.{installed, removed}
use Rattle.tdm_network.specs.Spots.{Spot, Role, spots_of, spot_of, role_of, IsLaidOut}
use Rattle.grant_tables.specs.Turns.{ends_in, begins_in}
use Rattle.grant_tables.specs.Entries.{grant_entries}

-- the tables after entries of a label were installed, one after the other
abbrev pub with_entries : Label → List TableEntry → List Row → List Row
with_entries label entries rows = fold (λ rs entry. installed label entry rs) rows entries

-- the tables without the entries of the grants that end in a slot
abbrev pub tables_ended : List Grant → ℕ → List Row → List Row
tables_ended grants slot rows = fold (λ rs grant. removed grant.label rs) rows (filter (ends_in slot) grants)

-- the tables of a tile with the entries of the grants that begin in a slot
abbrev pub tables_begun : World → ℕ → List Grant → ℕ → List Row → List Row
tables_begun world tile grants slot rows =
    fold (λ rs grant. with_entries grant.label (grant_entries world tile grant) rs) rows
    (filter (begins_in slot) grants)

-- the tables of a tile once the grants of a slot have ended and begun
abbrev pub tables_after : World → ℕ → List Grant → ℕ → List Row → List Row
tables_after world tile grants slot rows = tables_begun world tile grants slot (tables_ended grants slot rows)

-- an entry that a grant which stands at the beginning of a slot has in the tables of a tile
pub record IsHeld (world : World) (grants : List Grant) (slot tile : ℕ) (label : Label) (entry : TableEntry) : Type 0 where
  pub index : ℕ
  pub grant : Grant
  pub granted : slice_get grants index ≡ Some grant
  pub stands : stands_at slot grant ≡ true
  pub labelled : grant.label ≡ label
  pub place : ℕ
  pub there : slice_get (grant_entries world tile grant) place ≡ Some entry

-- an entry of a standing grant that has this place and says this there
pub record IsKnown (world : World) (grants : List Grant) (slot tile : ℕ) (spot : Spot) (what : Entry Role) : Type 0 where
  pub entry : TableEntry
  pub held : IsHeld world grants slot tile what.label entry
  pub spot_is : spot_of entry ≡ spot
  pub role_is : role_of entry ≡ what.what

-- The tables of a tile hold the entries of the grants that stand at the beginning of a slot, and no other.
pub record AreTabled (world : World) (grants : List Grant) (slot tile : ℕ) (rows : List Row) : Type 0 where
  pub laid_out : IsLaidOut world.platform.table_slots rows
  pub told : (label : Label) (entry : TableEntry) → IsHeld world grants slot tile label entry
      → spots_of rows (spot_of entry) ≡ Some (record { label = label; what = role_of entry })
  pub known : (spot : Spot) (what : Entry Role) → spots_of rows spot ≡ Some what
      → IsKnown world grants slot tile spot what
