-- What the channels of standing grants claim of the network, claim by claim.
use Rattle.std.specs.Prelude.{◌≡◌, ℕ, ◌+◌, ◌%◌, true, List, length, slice_get, Some}
use Rattle.bundle_model.specs.declared.bundle.Bundle.{Bundle}
use Rattle.bundle_model.specs.declared.world.World.{World}
use Rattle.bundle_model.specs.declared.world.Grant.{Grant}
use Rattle.bundle_model.specs.Ways.{Way, ways_of}
use Rattle.bundle_model.specs.Grants.{bundle_at, stands_at}

-- a grant that stands at the beginning of slot `now`, and its bundle
pub record Holder (world : World) (grants : List Grant) (now : ℕ) : Type 0 where
  pub index : ℕ
  pub grant : Grant
  pub granted : slice_get grants index ≡ Some grant
  pub stands : stands_at now grant ≡ true
  pub bundle : Bundle
  pub bundled : bundle_at world grant.bundle ≡ Some bundle

-- a channel of such a grant by its number, and a slot of the slot tables in which it injects
pub record Injection (world : World) (grants : List Grant) (now : ℕ) : Type 0 where
  pub holder : Holder world grants now
  pub number : ℕ
  pub way : Way
  pub way_there : slice_get (ways_of holder.bundle) number ≡ Some way
  pub place : ℕ
  pub slot : ℕ
  pub slot_there : slice_get way.slots place ≡ Some slot

-- it injects on a tile in a row of the inject table
pub record Departure (world : World) (grants : List Grant) (now row tile : ℕ) : Type 0 where
  pub injection : Injection world grants now
  pub tile_is : injection.way.from.tile ≡ tile
  pub row_is : injection.slot ≡ row

-- it passes a link in a row of the link's table: the `hop`-th of its path, counted from 0
pub record Passage (world : World) (grants : List Grant) (now row link : ℕ) : Type 0 where
  pub injection : Injection world grants now
  pub hop : ℕ
  pub link_there : slice_get injection.way.path hop ≡ Some link
  pub row_is : (injection.slot + 1 + hop) % world.platform.table_slots ≡ row

-- it is delivered on a tile in a row of the deliver table
pub record Arrival (world : World) (grants : List Grant) (now row tile : ℕ) : Type 0 where
  pub injection : Injection world grants now
  pub tile_is : injection.way.to.tile ≡ tile
  pub row_is : (injection.slot + length injection.way.path) % world.platform.table_slots ≡ row
