-- An index of owners: which grants hold a resource.
use Rattle.std.specs.Prelude.{◌≢◌, ℕ, zero, suc, List, [], ◌∷◌, Some, All, Contains, IsSome}
use Rattle.bundle_model.specs.declared.world.Grant.{Grant}
use Rattle.bundle_model.specs.Grants.{bundle_at}
use Rattle.vep_manager.specs.declared.setup.Setup.{Setup}

-- What contracts see of an index of owners: the setup that it was made for, and the grants that were
-- added, in the order of the history.
pub record Owners : Type 0 where
  pub setup : Setup
  pub grants : List Grant

-- what a grant must be to be added: one of the setup's loads has its label and its bundle, the bundle
-- breaks no rule, and no grant of this label was added
pub record CanAdd (owners : Owners) (grant : Grant) : Type 0 where
  pub of_load : Contains owners.setup.loads (record { label = grant.label; bundle = grant.bundle })
  pub kept : IsSome (bundle_at owners.setup.world grant.bundle)
  pub new : All (λ other. other.label ≢ grant.label) owners.grants

-- the grants, where the one at a place ends in a slot
abbrev pub with_end : List Grant → ℕ → ℕ → List Grant
with_end [] place end = []
with_end (grant ∷ grants) zero end = record grant { end = Some end } ∷ grants
with_end (grant ∷ grants) (suc place) end = grant ∷ with_end grants place end
