-- The least grant of the entries of a row that are in the way.
use Rattle.std.proofs.Common.{◌≡◌, ℕ, ◌-◌, ◌<◌, ◌≤◌, Bool, true, List, length, get_or, min, Option, Some, None, inl, inr, refl, sym, ap, ◌∙◌, subst, arith}
use Rattle.std.specs.Prelude.{IfSome, IsSomeAnd}
use Rattle.std.specs.List.{Any}
use Rattle.std.specs.Option.{option_map_or}
use Rattle.std.proofs.lemmas.Bool.{cases_eq, cases_lt, and_parts}
use Rattle.std.proofs.lemmas.List.{get_or_default}
use Rattle.bundle_model.specs.declared.resource.Resource.{Resource}
use Rattle.bundle_model.specs.declared.world.Grant.{Grant}
use Rattle.bundle_model.specs.Resources.{meets_of}
use Rattle.vep_manager.specs.declared.owners.held.Held.{Held}
use Rattle.vep_manager.specs.inner.Held.{IsInOrder, Reaches, IsLeastHit, lasts_at, hits}
use Rattle.vep_manager.proofs.Ranges.{meet_range}

-- an entry that is in the way meets the resource
hit_meets : (grants : List Grant) (start : ℕ) (resource : Resource) (held : Held) → hits grants start resource held ≡ true
    → meets_of held.resource resource ≡ true
hit_meets grants start resource held hit =
    (and_parts (lasts_at grants start held.grant) (meets_of held.resource resource) hit).1

-- no entry is in the way that doesn't reach the resource
pub hits_reached : (grants : List Grant) (start : ℕ) (resource : Resource) (row : List Held) (at : ℕ) (least : Option ℕ)
    → IsInOrder row → at ≤ length row → (Reaches at row resource → ⊥)
    → IsLeastHit (hits grants start resource) row at least → IsLeastHit (hits grants start resource) row 0 least
hits_reached grants start resource row at least order within short known = record {
  below = λ k d from inside hit.
      elim (cases_lt k at) [
        | inl front ↦
            let covered = order k (at - 1) d (omega arith) (omega arith) in
            let meets = meet_range (get_or row k d).resource resource
            (hit_meets grants start resource (get_or row k d) hit) in
            absurd (short (
              omega arith,
              λ e.
                  let same = ap (λ (h : Held). h.reach) (get_or_default row (at - 1) e d (omega arith)) in
                  omega (arith, covered.ends, meets, same),
            ))
        | inr behind ↦ known.below k d behind inside hit
      ];
  found = known.found;
}

least_of : (o : Option ℕ) (place other : ℕ) → IsSomeAnd o (λ n. n ≤ other) → option_map_or (λ n. min n place) o place ≤ other
least_of None place other low = absurd low
least_of (Some n) place other low = omega (arith, low)

least_here : (o : Option ℕ) (place : ℕ) → option_map_or (λ n. min n place) o place ≤ place
least_here None place = omega arith
least_here (Some n) place = omega arith

least_found : (P : ℕ → Type 0) (o : Option ℕ) (place : ℕ) → IfSome o P → P place → P (option_map_or (λ n. min n place) o place)
least_found P None place found here = here
least_found P (Some n) place found here =
    elim (cases_lt n place) [
      | inl less ↦ let is : min n place ≡ n = omega arith in subst P (sym is) found
      | inr most ↦ let is : min n place ≡ place = omega arith in subst P (sym is) here
    ]

-- one entry more that is in the way
pub hit_more : (test : Held → Bool) (row : List Held) (at : ℕ) (least : Option ℕ) (held : Held) (place : ℕ) → 0 < at
    → at ≤ length row → get_or row (at - 1) held ≡ held → test held ≡ true
    → place ≡ option_map_or (λ other. min other held.grant) least held.grant → IsLeastHit test row at least
    → IsLeastHit test row (at - 1) (Some place)
hit_more test row at least held place some within is hit least_is known = record {
  below = λ k d from inside passes.
      elim (cases_eq k (at - 1)) [
        | inl here ↦
            let there : get_or row k d ≡ held =
            ap (λ n. get_or row n d) here ∙ get_or_default row (at - 1) d held (omega arith) ∙ is in
            let low = least_here least held.grant in
            let grant = ap (λ (h : Held). h.grant) there in
            omega (arith, low, grant, least_is)
        | inr other ↦
            let low = least_of least held.grant (get_or row k d).grant (known.below k d (omega arith) inside passes) in
            omega (arith, low, least_is)
      ];
  found =
      let P : ℕ → Type 0 = λ grant. Any (λ (h : Held). (test h ≡ true) × (h.grant ≡ grant)) row in
      let here : P held.grant = (at - 1, held, omega arith, is, (hit, refl)) in
      subst P (sym least_is) (least_found P least held.grant known.found here);
}
