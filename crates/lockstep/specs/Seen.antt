-- Grants as far as they are known in a slot.
use Rattle.std.specs.Prelude.{◌≡◌, ℕ, ◌<◌, ◌≤◌, ◌⊎◌, nat_le, List, length, map, filter, slice_get, if◌then◌else◌, Option, Some, None, IsSomeAnd}
use Rattle.bundle_model.specs.declared.world.Grant.{Grant}

-- the end of a grant, where it comes in the slot or before
abbrev pub end_seen : ℕ → Option ℕ → Option ℕ
end_seen slot None = None
end_seen slot (Some end) = if nat_le end slot then Some end else None

-- a grant with that end
abbrev pub as_seen : ℕ → Grant → Grant
as_seen slot grant = record grant { end = end_seen slot grant.end }

-- the grants as they are known in a slot: those that start in it or before, and of each its end where that
-- comes in it or before
abbrev pub grants_seen : ℕ → List Grant → List Grant
grants_seen slot grants = map (as_seen slot) (filter (λ grant. nat_le grant.start slot) grants)

-- in every slot below one, two lists of grants are known alike
abbrev pub AreSeenAlike : ℕ → List Grant → List Grant → Type 0
AreSeenAlike horizon one other = (slot : ℕ) → slot < horizon → grants_seen slot one ≡ grants_seen slot other

-- Where each old grant stands at its place among the new ones as it was, but that an open one may have an
-- end in a slot or later, and all others begin in that slot or later, both are known alike in every slot
-- below it.
abbrev pub GrantsAreSeenAlike : Type 0
GrantsAreSeenAlike = (slot : ℕ) (old new : List Grant)
    → ((place : ℕ) (grant : Grant) → slice_get old place ≡ Some grant
    → IsSomeAnd (slice_get new place) (λ kept. (kept.label ≡ grant.label) × (kept.bundle ≡ grant.bundle)
    × (kept.start ≡ grant.start)
    × ((kept.end ≡ grant.end) ⊎ ((grant.end ≡ None) × IsSomeAnd kept.end (λ end. slot ≤ end)))))
    → ((place : ℕ) (grant : Grant) → slice_get new place ≡ Some grant → length old ≤ place → slot ≤ grant.start)
    → AreSeenAlike slot old new
