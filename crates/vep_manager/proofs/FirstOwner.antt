-- The first grant that conflicts with a resource is the least in its row that is in the way.
use Rattle.std.proofs.Common.{◌≡◌, ℕ, ◌+◌, ◌<◌, ◌≤◌, Bool, true, false, List, [], ◌∷◌, length, map, get_or, Option, Some, None, inl, inr, refl, ap, ◌∙◌, sym, subst, arith}
use Rattle.std.specs.Prelude.{◌==◌, ◌&&◌, IfSome, IsSomeAnd, nat_lt}
use Rattle.std.specs.List.{count_by, list_any, position, position_or_len}
use Rattle.std.specs.Option.{option_map_or}
use Rattle.std.proofs.lemmas.Bool.{cases_lt, and_parts, and_from, eqb-true, eq-eqb, false_from_ne_true, cond-true, cond-false, lt-ltb, le-ltb}
use Rattle.std.proofs.lemmas.List.{get_or-map, length-map}
use Rattle.std.proofs.lemmas.List.Sums.{position_or_len_is}
use Rattle.std.proofs.lemmas.List.Folds.{Any-from_list_any}
use Rattle.std.proofs.lemmas.Option.{slice_get-get_or, IfSome_then}
use Rattle.bundle_model.specs.declared.resource.Resource.{Resource}
use Rattle.bundle_model.specs.declared.world.LoadName.{LoadName}
use Rattle.bundle_model.specs.declared.world.Grant.{Grant}
use Rattle.bundle_model.specs.Resources.{meets_of}
use Rattle.bundle_model.specs.Grants.{conflicts, lasts_to, grant_resources}
use Rattle.vep_manager.specs.declared.owners.held.Held.{Held}
use Rattle.vep_manager.specs.declared.setup.Setup.{Setup}
use Rattle.vep_manager.specs.inner.Claims.{claimed_at}
use Rattle.vep_manager.specs.inner.Places.{row_of}
use Rattle.vep_manager.specs.inner.Held.{IsLeastHit, hits, lasts_at}
use Rattle.vep_manager.specs.inner.Owned.{IsFilled, load_of, in_row}
use Rattle.vep_manager.proofs.Ranges.{meet_row}
use Rattle.vep_manager.proofs.HeldOrder.{no_held}
use Rattle.vep_manager.proofs.Counts.{some_count, count_some}
use Rattle.vep_manager.proofs.ClaimCounts.{claim_some, claim_has}

-- the place of the first item that passes is the least place at which one does
least_place : {X : Type 0} (p : X → Bool) (xs : List X) (r : Option ℕ)
    → ((k : ℕ) (d : X) → k < length xs → p (get_or xs k d) ≡ true → IsSomeAnd r (λ g. g ≤ k))
    → IfSome r (λ g. (g < length xs) × ((d : X) → p (get_or xs g d) ≡ true)) → r ≡ position p xs
least_place p [] None below found = refl
least_place p [] (Some g) below found = absurd (omega (arith, found.0))
least_place p (x ∷ xs) None below found =
    let end = position_or_len_is p (x ∷ xs) (length (x ∷ xs)) x (omega arith)
    (λ k low. false_from_ne_true (p (get_or (x ∷ xs) k x)) (λ passes. below k x low passes)) (λ low. absurd (omega (arith, low))) in
    sym (cond-false (nat_lt (position_or_len p (x ∷ xs)) (length (x ∷ xs))) (Some (position_or_len p (x ∷ xs))) None
    (le-ltb (position_or_len p (x ∷ xs)) (length (x ∷ xs)) (omega (arith, end))))
least_place p (x ∷ xs) (Some g) below found =
    let here = position_or_len_is p (x ∷ xs) g x (omega (arith, found.0))
    (λ k low. false_from_ne_true (p (get_or (x ∷ xs) k x))
    (λ passes. let least = below k x (omega (arith, low, found.0)) passes in absurd (omega (arith, least, low)))) (λ low. found.1 x) in
    ap Some (sym here)
    ∙ sym (cond-true (nat_lt (position_or_len p (x ∷ xs)) (length (x ∷ xs))) (Some (position_or_len p (x ∷ xs))) None
    (lt-ltb (position_or_len p (x ∷ xs)) (length (x ∷ xs)) (omega (arith, here, found.0))))

-- which is a place of the list
pub position_within : {X : Type 0} (p : X → Bool) (xs : List X) → IfSome (position p xs) (λ k. k < length xs)
position_within {X} p xs =
    elim (cases_lt (position_or_len p xs) (length xs)) [
      | inl below ↦
          subst (λ (o : Option ℕ). IfSome o (λ k. k < length xs))
          (sym (cond-true (nat_lt (position_or_len p xs) (length xs)) (Some (position_or_len p xs)) None
          (lt-ltb (position_or_len p xs) (length xs) below))) below
      | inr past ↦
          subst (λ (o : Option ℕ). IfSome o (λ k. k < length xs))
          (sym (cond-false (nat_lt (position_or_len p xs) (length xs)) (Some (position_or_len p xs)) None
          (le-ltb (position_or_len p xs) (length xs) past))) tt
    ]

-- the grant lasts, and the resource meets the other one
of_grant : Resource → ℕ → Resource → ℕ → Bool
of_grant resource k held grant = grant == k && meets_of held resource

module _ (setup : Setup) (grants : List Grant) (rows : List (List Held)) (resource : Resource) (start n : ℕ)
    (filled : IsFilled setup.world (map load_of grants) rows) (below : n < length rows)
    (is : n ≡ row_of setup.world.platform.tiles (length rows) resource) where
  row : List Held
  row = get_or rows n []

  -- an entry that is in the way is of a grant that conflicts
  hit_conflicts : (j : ℕ) (d : Held) → j < length row → hits grants start resource (get_or row j d) ≡ true
      → ((get_or row j d).grant < length grants)
      × ((e : Grant) → conflicts setup.world start resource (get_or grants (get_or row j d).grant e) ≡ true)
  unfolding row of_grant
  hit_conflicts j d inside hit =
      let held : Held = get_or row j d in
      let k : ℕ = held.grant in
      let tiles : ℕ = setup.world.platform.tiles in
      let parts = and_parts (lasts_at grants start k) (meets_of held.resource resource) hit in
      let some = some_count (λ (h : Held). of_grant resource k h.resource h.grant) row j d inside
      (and_from (k == k) (meets_of held.resource resource) (eq-eqb k k refl) parts.1) in
      let count = filled.holds n below (of_grant resource k) in
      let name = claim_some setup.world (in_row tiles (length rows) n (of_grant resource k)) (λ r. meets_of r resource) k
      (λ r i passes.
      let inner = and_parts (of_grant resource k r i) (row_of tiles (length rows) r == n) passes in
      let both = and_parts (i == k) (meets_of r resource) inner.0 in
      (eqb-true i k both.0, both.1)) 0 (map load_of grants) (omega (arith, some, count)) in
      let low : k < length grants = omega (arith, name.1, name.2, length-map grants load_of) in
      let at : name.0 ≡ k = omega (arith, name.2) in (
        low,
        λ e.
            let grant : Grant = get_or grants k e in
            let lasts : lasts_to start grant.end ≡ true =
            sym (ap (λ (o : Option Grant). option_map_or (λ (g : Grant). lasts_to start g.end) o false)
            (slice_get-get_or grants k e low)) ∙ parts.0 in
            let meets : list_any (λ r. meets_of r resource) (grant_resources setup.world grant) ≡ true =
            sym (ap (λ (l : LoadName). list_any (λ r. meets_of r resource) (claimed_at setup.world l.bundle))
            (ap (λ i. get_or (map load_of grants) i (load_of e)) at ∙ get_or-map load_of grants k e (load_of e) low))
            ∙ name.3 (load_of e) in
            and_from (lasts_to start grant.end) (list_any (λ r. meets_of r resource) (grant_resources setup.world grant))
            lasts meets,
      )

  -- a grant that conflicts has an entry that is in the way
  conflict_hits : (k : ℕ) (e : Grant) → k < length grants → conflicts setup.world start resource (get_or grants k e) ≡ true
      → (j : ℕ) × (j < length row)
      × ((d : Held) → (hits grants start resource (get_or row j d) ≡ true) × ((get_or row j d).grant ≡ k))
  unfolding row of_grant
  conflict_hits k e low conflict =
      let grant : Grant = get_or grants k e in
      let tiles : ℕ = setup.world.platform.tiles in
      let list : List Resource = claimed_at setup.world grant.bundle in
      let test : Resource → ℕ → Bool = in_row tiles (length rows) n (of_grant resource k) in
      let parts = and_parts (lasts_to start grant.end) (list_any (λ r. meets_of r resource) list) conflict in
      let any = Any-from_list_any (λ r. meets_of r resource) list parts.1 in
      let held : Resource = any.1 in
      let same : row_of tiles (length rows) held ≡ n =
      meet_row tiles (length rows) held resource any.4 ∙ sym is in
      let passes : test held k ≡ true =
      and_from (of_grant resource k held k) (row_of tiles (length rows) held == n)
      (and_from (k == k) (meets_of held resource) (eq-eqb k k refl) any.4)
      (eq-eqb (row_of tiles (length rows) held) n same) in
      let some = some_count (λ r. test r k) list any.0 held any.2 (ap (λ r. test r k) any.3 ∙ passes) in
      let name : get_or (map load_of grants) k (load_of e) ≡ load_of grant = get_or-map load_of grants k e (load_of e) low in
      let has = claim_has setup.world test 0 (map load_of grants) k (load_of e) (omega (arith, low, length-map grants load_of)) in
      let zero_plus : 0 + k ≡ k = omega arith in
      let here = ap (λ (l : LoadName). count_by (λ r. test r (0 + k)) (claimed_at setup.world l.bundle)) name
      ∙ ap (λ i. count_by (λ r. test r i) list) zero_plus in
      let count = filled.holds n below (of_grant resource k) in
      let one = count_some (λ (h : Held). of_grant resource k h.resource h.grant) row (omega (arith, some, has, here, count)) in (
        one.0,
        one.1,
        λ d.
            let found : Held = get_or row one.0 d in
            let both = and_parts (found.grant == k) (meets_of found.resource resource) (one.2 d) in
            let of_k : found.grant ≡ k = eqb-true found.grant k both.0 in
            let lasts : lasts_at grants start found.grant ≡ true =
            ap (lasts_at grants start) of_k
            ∙ ap (λ (o : Option Grant). option_map_or (λ (g : Grant). lasts_to start g.end) o false)
            (slice_get-get_or grants k e low) ∙ parts.0 in
            (and_from (lasts_at grants start found.grant) (meets_of found.resource resource) lasts both.1, of_k),
      )

  pub first_is : (r : Option ℕ) → IsLeastHit (hits grants start resource) (get_or rows n []) 0 r
      → r ≡ position (conflicts setup.world start resource) grants
  unfolding row
  first_is r least =
      least_place (conflicts setup.world start resource) grants r
      (λ k e low conflict.
      let hit = conflict_hits k e low conflict in
      let at = least.below hit.0 no_held (omega arith) hit.1 (hit.2 no_held).0 in
      subst (λ m. IsSomeAnd r (λ g. g ≤ m)) (hit.2 no_held).1 at)
      (IfSome_then r least.found (λ g any.
      let same : (get_or (get_or rows n []) any.0 any.1).grant ≡ g = ap (λ (h : Held). h.grant) any.3 ∙ any.4.1 in
      let hit = hit_conflicts any.0 any.1 any.2 (ap (hits grants start resource) any.3 ∙ any.4.0) in
      subst (λ m. (m < length grants)
      × ((d : Grant) → conflicts setup.world start resource (get_or grants m d) ≡ true)) same hit))
