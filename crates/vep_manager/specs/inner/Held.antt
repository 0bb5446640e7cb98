-- A row of what grants hold, in order of first bytes.
use Rattle.std.specs.Prelude.{◌≡◌, ◌≢◌, ℕ, ◌-◌, ◌<◌, ◌≤◌, Bool, true, false, ◌&&◌, List, length, count_by, slice_get, slice_index_or, Option, IfSome, IsSomeAnd}
use Rattle.std.specs.List.{Any}
use Rattle.std.specs.Option.{option_map_or}
use Rattle.bundle_model.specs.declared.resource.Resource.{Resource}
use Rattle.bundle_model.specs.declared.world.Grant.{Grant}
use Rattle.bundle_model.specs.Resources.{meets_of}
use Rattle.bundle_model.specs.Grants.{lasts_to}
use Rattle.vep_manager.specs.declared.owners.held.Held.{Held}
use Rattle.vep_manager.specs.inner.Places.{low_of, high_of}

-- the one begins no later than the other, and ends no later than the other reaches
pub record IsCovered (one other : Held) : Type 0 where
  pub begins : low_of one.resource ≤ low_of other.resource
  pub ends : high_of one.resource ≤ other.reach

-- each entry covers itself and those before it
abbrev pub IsInOrder : List Held → Type 0
IsInOrder row = (i j : ℕ) (d : Held) → i ≤ j → j < length row
    → IsCovered (slice_index_or row i d) (slice_index_or row j d)

-- so does each but the one at a place
abbrev pub IsInOrderBut : ℕ → List Held → Type 0
IsInOrderBut at row = (i j : ℕ) (d : Held) → i ≤ j → j < length row → j ≢ at
    → IsCovered (slice_index_or row i d) (slice_index_or row j d)

-- the entry at a place begins before the one in front of it
abbrev pub BeginsBefore : ℕ → List Held → Type 0
BeginsBefore at row = (0 < at)
    × ((d : Held) → low_of (slice_index_or row at d).resource < low_of (slice_index_or row (at - 1) d).resource)

-- how many entries pass a test of the resource and the grant
abbrev pub held_count : (Resource → ℕ → Bool) → List Held → ℕ
held_count test row = count_by (λ held. test held.resource held.grant) row

-- the rows have the same resources and grants
abbrev pub HoldAlike : List Held → List Held → Type 0
HoldAlike one other = (test : Resource → ℕ → Bool) → held_count test one ≡ held_count test other

-- the entries below a place begin no later than a resource ends, and the others begin later
pub record IsBegun (row : List Held) (resource : Resource) (place : ℕ) : Type 0 where
  pub within : place ≤ length row
  pub later : (k : ℕ) (d : Held) → place ≤ k → k < length row → high_of resource < low_of (slice_index_or row k d).resource

-- an entry in front of a place reaches a resource
abbrev pub Reaches : ℕ → List Held → Resource → Type 0
Reaches at row resource = (0 < at) × ((d : Held) → low_of resource ≤ (slice_index_or row (at - 1) d).reach)

-- whether the grant at a place isn't over before a slot
abbrev pub lasts_at : List Grant → ℕ → ℕ → Bool
lasts_at grants start place = option_map_or (λ grant. lasts_to start grant.end) (slice_get grants place) false

-- whether an entry is in the way of a resource that is asked for from a slot on
abbrev pub hits : List Grant → ℕ → Resource → Held → Bool
hits grants start resource held = lasts_at grants start held.grant && meets_of held.resource resource

-- the least grant of those entries from a place on that pass a test
pub record IsLeastHit (test : Held → Bool) (row : List Held) (from : ℕ) (least : Option ℕ) : Type 0 where
  pub below : (k : ℕ) (d : Held) → from ≤ k → k < length row → test (slice_index_or row k d) ≡ true
      → IsSomeAnd least (λ grant. grant ≤ (slice_index_or row k d).grant)
  pub found : IfSome least (λ grant. Any (λ held. (test held ≡ true) × (held.grant ≡ grant)) row)
