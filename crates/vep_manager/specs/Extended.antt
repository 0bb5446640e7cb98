-- What a legal history keeps of each history that it begins with.
use Rattle.std.specs.Prelude.{◌≡◌, ℕ, ◌≤◌, ◌⊎◌, List, length, slice_get, Option, Some, None, IsSomeAnd}
use mathlib.Core.List.{IsPrefix}
use Rattle.bundle_model.specs.declared.world.Grant.{Grant}
use Rattle.vep_manager.specs.declared.setup.Setup.{Setup}
use Rattle.vep_manager.specs.declared.reply.Entry.{Entry}
use Rattle.vep_manager.specs.History.{grants_of, horizon_of}
use Rattle.vep_manager.specs.Legal.{IsLegal}

-- the end is as it was; or there was none, and there is one at the slot or later
abbrev pub KeepsEnd : ℕ → Option ℕ → Option ℕ → Type 0
KeepsEnd slot old new = (new ≡ old) ⊎ ((old ≡ None) × IsSomeAnd new (λ end. slot ≤ end))

-- the grant is as it was, but that an open one may have an end at the slot or later
pub record KeepsGrant (slot : ℕ) (old new : Grant) : Type 0 where
  pub label : new.label ≡ old.label
  pub bundle : new.bundle ≡ old.bundle
  pub start : new.start ≡ old.start
  pub end : KeepsEnd slot old.end new.end

-- the old grants stand at their places among the new ones, and all others begin at the slot or later
pub record KeepsGrants (slot : ℕ) (old new : List Grant) : Type 0 where
  pub kept : (place : ℕ) (grant : Grant) → slice_get old place ≡ Some grant
      → IsSomeAnd (slice_get new place) (KeepsGrant slot grant)
  pub added : (place : ℕ) (grant : Grant) → slice_get new place ≡ Some grant → length old ≤ place
      → slot ≤ grant.start

-- The history goes on from the old one, which is legal too: the horizon doesn't fall, and below the old
-- horizon no grant begins or ends that the old history didn't have.
pub record GoesOn (setup : Setup) (old new : List Entry) : Type 0 where
  pub legal : IsLegal setup old
  pub horizon : horizon_of setup old ≤ horizon_of setup new
  pub grants : KeepsGrants (horizon_of setup old) (grants_of setup old) (grants_of setup new)

-- every legal history goes on from each history that it begins with
abbrev pub LegalHistoriesGoOn : Setup → Type 0
LegalHistoriesGoOn setup = (old new : List Entry) → IsPrefix old new → IsLegal setup new → GoesOn setup old new

-- the horizon of every history is at most the budget
abbrev pub HorizonsAreWithin : Setup → Type 0
HorizonsAreWithin setup = (history : List Entry) → horizon_of setup history ≤ setup.budget
