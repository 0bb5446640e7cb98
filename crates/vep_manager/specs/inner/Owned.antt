-- What an index of owners keeps, and its room.
use Rattle.std.specs.Prelude.{◌≡◌, ◌≢◌, ℕ, ◌+◌, ◌*◌, ◌<◌, ◌≤◌, ◌^◌, ◌==◌, Bool, ◌&&◌, List, [], ◌∷◌, length, map, count_by, sum_by, slice_index, slice_index_or, All, AllPairs, Contains}
use Rattle.platform_model.specs.declared.platform.Platform.{Platform}
use Rattle.soc_base.specs.declared.limits.TheConstants.{MOST_COMMANDS}
use Rattle.bundle_model.specs.declared.resource.Resource.{Resource}
use Rattle.bundle_model.specs.declared.world.LoadName.{LoadName}
use Rattle.bundle_model.specs.declared.world.Grant.{Grant}
use Rattle.bundle_model.specs.declared.world.World.{World}
use Rattle.vep_manager.specs.declared.owners.places.TheConstants.{GROUP}
use Rattle.vep_manager.specs.declared.owners.held.Held.{Held}
use Rattle.vep_manager.specs.declared.setup.Setup.{Setup}
use Rattle.vep_manager.specs.inner.Claims.{claimed_at, claims_of}
use Rattle.vep_manager.specs.inner.Held.{IsInOrder, held_count}
use Rattle.vep_manager.specs.inner.Places.{row_of}
use Rattle.vep_manager.specs.inner.Shelf.{Shelf}

-- how many rows an index for a platform has
abbrev pub row_count : Platform → ℕ
row_count platform = (platform.tiles + length platform.links) * GROUP

-- how many of the resources in a list lie in a row
abbrev pub count_in : ℕ → ℕ → ℕ → List Resource → ℕ
count_in tiles rows n list = count_by (λ resource. row_of tiles rows resource == n) list

-- how many of the resources that the bundles of some loads hold lie in a row
abbrev pub loads_in : World → ℕ → ℕ → List LoadName → ℕ
loads_in world rows n loads = sum_by (λ load. count_in world.platform.tiles rows n (claimed_at world load.bundle)) loads

-- for each row, how many of the resources that the loads' bundles hold lie in it
pub record AreRooms (setup : Setup) (rooms : List ℕ) : Type 0 where
  pub len : length rooms ≡ row_count setup.world.platform
  pub some : 0 < length rooms
  pub few : length rooms ≤ 2 ^ 20
  pub counts : (n : ℕ) → n < length rooms → slice_index rooms n ≡ loads_in setup.world (length rooms) n setup.loads

-- a grant as a load
abbrev pub load_of : Grant → LoadName
load_of grant = record { label = grant.label; bundle = grant.bundle }

-- how many of the resources that the bundles of some loads hold pass a test of the resource and the
-- load's place, counted from `place` on
abbrev pub claim_count : World → (Resource → ℕ → Bool) → ℕ → List LoadName → ℕ
claim_count world test place [] = 0
claim_count world test place (load ∷ loads) =
    count_by (λ resource. test resource place) (claimed_at world load.bundle) + claim_count world test (place + 1) loads

-- the test, of the resources in one row alone
abbrev pub in_row : ℕ → ℕ → ℕ → (Resource → ℕ → Bool) → Resource → ℕ → Bool
in_row tiles rows n test resource place = test resource place && (row_of tiles rows resource == n)

-- each row is in order, and holds of some grants' resources those that lie in it
pub record IsFilled (world : World) (loads : List LoadName) (rows : List (List Held)) : Type 0 where
  pub in_order : (n : ℕ) → n < length rows → IsInOrder (slice_index_or rows n [])
  pub holds : (n : ℕ) → n < length rows → (test : Resource → ℕ → Bool) → held_count test (slice_index_or rows n [])
      ≡ claim_count world (in_row world.platform.tiles (length rows) n test) 0 loads

-- no resource of these loads is without room
abbrev pub HasRoom : World → List LoadName → Shelf → Type 0
HasRoom world loads shelf = (n : ℕ) → n < length shelf.rows
    → loads_in world (length shelf.rows) n loads ≤ slice_index shelf.rooms n

-- a list of resources that a grant holds fits in the rows
abbrev pub Fits : ℕ → List Resource → Shelf → Type 0
Fits tiles list shelf = (n : ℕ) → n < length shelf.rows
    → length (slice_index_or shelf.rows n []) + count_in tiles (length shelf.rows) n list ≤ slice_index shelf.rooms n

-- the new rows hold what the old ones did, and the resources of a list by a grant
pub record HoldsMore (tiles : ℕ) (list : List Resource) (grant : ℕ) (old new : Shelf) : Type 0 where
  pub rooms : new.rooms ≡ old.rooms
  pub count : length new.rows ≡ length old.rows
  pub in_order : (n : ℕ) → n < length old.rows → IsInOrder (slice_index_or new.rows n [])
  pub holds : (n : ℕ) → n < length old.rows → (test : Resource → ℕ → Bool) → held_count test (slice_index_or new.rows n [])
      ≡ held_count test (slice_index_or old.rows n [])
      + count_by (λ resource. in_row tiles (length old.rows) n test resource grant) list

-- what an index of owners keeps beside the setup and the grants
pub record Kept : Type 0 where
  pub lists : List (List Resource)
  pub tiles : ℕ
  pub shelf : Shelf
  pub room : ℕ

-- The index stands for the grants: each is of one of the loads, no two are of one, and the rows hold
-- their resources. There is room for those of every load.
pub record IsIndex (setup : Setup) (grants : List Grant) (kept : Kept) : Type 0 where
  pub lists : kept.lists ≡ claims_of setup.world
  pub tiles : kept.tiles ≡ setup.world.platform.tiles
  pub some : 0 < length kept.shelf.rows
  pub filled : IsFilled setup.world (map load_of grants) kept.shelf.rows
  pub fits : HasRoom setup.world setup.loads kept.shelf
  pub of_loads : All (Contains setup.loads) (map load_of grants)
  pub labelled : AllPairs (λ one other. one.label ≢ other.label) (map load_of grants)
  pub few : length setup.loads ≤ MOST_COMMANDS
  pub grants_fit : length setup.loads ≤ kept.room
