-- How many of the resources of some loads pass a test.
use Rattle.std.proofs.Common.{◌≡◌, ℕ, zero, suc, ◌+◌, ◌<◌, ◌≤◌, Bool, true, List, [], ◌∷◌, ◌++◌, length, get_or, inl, inr, refl, ap, arith}
use Rattle.std.specs.List.{count_by, list_any}
use Rattle.std.proofs.lemmas.Bool.{cases_lt}
use Rattle.std.proofs.lemmas.List.Sums.{sum_by-cons}
use Rattle.std.proofs.lemmas.List.Folds.{list_any_at}
use Rattle.bundle_model.specs.declared.resource.Resource.{Resource}
use Rattle.bundle_model.specs.declared.world.World.{World}
use Rattle.bundle_model.specs.declared.world.LoadName.{LoadName}
use Rattle.vep_manager.specs.inner.Claims.{claimed_at}
use Rattle.vep_manager.specs.inner.Owned.{claim_count, in_row, loads_in, count_in}
use Rattle.vep_manager.proofs.Counts.{count_some}

-- any test passes
abbrev pub every : Resource → ℕ → Bool
every resource grant = true

-- one load more
pub claim_count-push : (world : World) (test : Resource → ℕ → Bool) (place : ℕ) (loads : List LoadName) (load : LoadName)
    → claim_count world test place (loads ++ load ∷ [])
    ≡ claim_count world test place loads
    + count_by (λ resource. test resource (place + length loads)) (claimed_at world load.bundle)
claim_count-push world test place [] load =
    let here : place ≡ place + 0 = omega arith in
    let same = ap (λ n. count_by (λ r. test r n) (claimed_at world load.bundle)) here in
    omega (arith, same)
claim_count-push world test place (other ∷ loads) load =
    let rest = claim_count-push world test (place + 1) loads load in
    let shift : place + 1 + length loads ≡ place + suc (length loads) = omega arith in
    let same = ap (λ n. count_by (λ r. test r n) (claimed_at world load.bundle)) shift in
    omega (arith, rest, same)

-- all that lie in a row
pub claim_count-every : (world : World) (rows n place : ℕ) (loads : List LoadName)
    → claim_count world (in_row world.platform.tiles rows n every) place loads ≡ loads_in world rows n loads
claim_count-every world rows n place [] = refl
claim_count-every world rows n place (load ∷ loads) =
    let rest = claim_count-every world rows n (place + 1) loads in
    let cons = sum_by-cons (λ (l : LoadName). count_in world.platform.tiles rows n (claimed_at world l.bundle)) load
    loads in
    omega (arith, rest, cons)

-- what passes of a list is of the one load
here_is : (test : Resource → ℕ → Bool) (p : Resource → Bool) (k : ℕ)
    → ((r : Resource) (j : ℕ) → test r j ≡ true → (j ≡ k) × (p r ≡ true)) → (place : ℕ) (list : List Resource) (i : ℕ)
    → i < length list → ((d : Resource) → test (get_or list i d) place ≡ true)
    → (place ≡ k) × (list_any p list ≡ true)
here_is test p k says place [] i inside passes = absurd (omega (arith, inside))
here_is test p k says place (r ∷ rs) i inside passes =
    let both = says (get_or (r ∷ rs) i r) place (passes r) in
    (both.0, list_any_at p (r ∷ rs) i r inside both.1)

-- where some resources pass, one of a load does
pub claim_some : (world : World) (test : Resource → ℕ → Bool) (p : Resource → Bool) (k : ℕ)
    → ((r : Resource) (j : ℕ) → test r j ≡ true → (j ≡ k) × (p r ≡ true)) → (place : ℕ) (loads : List LoadName)
    → 0 < claim_count world test place loads
    → (i : ℕ) × (i < length loads) × (k ≡ place + i)
    × ((d : LoadName) → list_any p (claimed_at world (get_or loads i d).bundle) ≡ true)
claim_some world test p k says place [] some = absurd (omega (arith, some))
claim_some world test p k says place (load ∷ loads) some =
    let list : List Resource = claimed_at world load.bundle in
    elim (cases_lt 0 (count_by (λ r. test r place) list)) [
      | inl here ↦
          let one = count_some (λ r. test r place) list here in
          let is = here_is test p k says place list one.0 one.1 one.2 in
          (zero, omega arith, omega (arith, is.0), λ d. is.1)
      | inr none ↦
          let rest = claim_some world test p k says (place + 1) loads (omega (arith, some, none)) in
          (suc rest.0, omega (arith, rest.1), omega (arith, rest.2), rest.3)
    ]

-- and a load's resources that pass are counted
pub claim_has : (world : World) (test : Resource → ℕ → Bool) (place : ℕ) (loads : List LoadName) (i : ℕ) (d : LoadName)
    → i < length loads
    → count_by (λ r. test r (place + i)) (claimed_at world (get_or loads i d).bundle) ≤ claim_count world test place loads
claim_has world test place [] i d inside = absurd (omega (arith, inside))
claim_has world test place (load ∷ loads) zero d inside =
    let here : place + 0 ≡ place = omega arith in
    let same = ap (λ n. count_by (λ r. test r n) (claimed_at world load.bundle)) here in
    omega (arith, same)
claim_has world test place (load ∷ loads) (suc i) d inside =
    let rest = claim_has world test (place + 1) loads i d (omega (arith, inside)) in
    let shift : place + 1 + i ≡ place + suc i = omega arith in
    let same = ap (λ n. count_by (λ r. test r n) (claimed_at world (get_or loads i d).bundle)) shift in
    omega (arith, rest, same)
