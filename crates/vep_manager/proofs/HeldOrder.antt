-- Rows in order, entry by entry.
use Rattle.std.proofs.Common.{◌≡◌, ◌≢◌, ℕ, ◌+◌, ◌-◌, ◌<◌, ◌≤◌, Bool, cond, List, length, get_or, set, inl, inr, sym, ap, ap₂, ◌∙◌, subst, refl, arith, length-set, get_or-set_other, get_or-set_same}
use Rattle.std.proofs.lemmas.Bool.{cases_eq, cases_lt}
use Rattle.std.proofs.lemmas.List.{get_or_default}
use Rattle.std.proofs.lemmas.List.Sums.{sum_by-set}
use Rattle.bundle_model.specs.declared.resource.Resource.{Resource}
use Rattle.bundle_model.specs.declared.resource.Resource.TheVariants.{Partition}
use Rattle.vep_manager.specs.declared.owners.held.Held.{Held}
use Rattle.vep_manager.specs.inner.Places.{low_of, high_of}
use Rattle.vep_manager.specs.inner.Held.{IsCovered, IsInOrder, IsInOrderBut, BeginsBefore, HoldAlike}

-- what a read beside a row gives
abbrev pub no_held : Held
no_held = record { resource = Partition 0 0; grant = 0; reach = 0 }

-- the same entry, but for a higher reach
pub record IsRaised (old new : Held) : Type 0 where
  pub resource : new.resource ≡ old.resource
  pub grant : new.grant ≡ old.grant
  pub reach : old.reach ≤ new.reach

covered_as : (a b x y : Held) → a ≡ x → b ≡ y → IsCovered x y → IsCovered a b
covered_as a b x y first second covered =
    subst (λ (e : Held). IsCovered e b) (sym first) (subst (λ (e : Held). IsCovered x e) (sym second) covered)

-- a raised entry covers what it covered
covers_raised : (x old new : Held) → IsRaised old new → IsCovered x old → IsCovered x new
covers_raised x old new raised covered =
    let low = ap low_of raised.resource in
    record { begins = omega (arith, low, covered.begins); ends = omega (arith, covered.ends, raised.reach) }

-- an entry of the same resource is covered as before
covered_alike : (old new y : Held) → new.resource ≡ old.resource → IsCovered old y → IsCovered new y
covered_alike old new y same covered =
    let low = ap low_of same in
    let high = ap high_of same in
    record { begins = omega (arith, low, covered.begins); ends = omega (arith, high, covered.ends) }

weight : (Resource → ℕ → Bool) → Held → ℕ
weight test held = cond (test held.resource held.grant) 1 0

same_weight : (test : Resource → ℕ → Bool) (one other : Held) → one.resource ≡ other.resource → one.grant ≡ other.grant
    → weight test one ≡ weight test other
unfolding weight
same_weight test one other resource grant = ap (λ (b : Bool). cond b 1 0) (ap₂ test resource grant)

-- Two neighbours are exchanged, the first of which is raised.
module _ (row : List Held) (at before : ℕ) (one other raised : Held) (next : at ≡ before + 1) (inside : at < length row)
    (is : (d : Held) → get_or row at d ≡ one) (was : (d : Held) → get_or row before d ≡ other)
    (higher : IsRaised other raised) where
  moved : List Held
  moved = set (set row at raised) before one

  at_before : (d : Held) → get_or moved before d ≡ one
  unfolding moved
  at_before d =
      let len = length-set row at raised in
      let low : before < length (set row at raised) = omega (arith, len) in
      get_or-set_same (set row at raised) before one d low

  at_place : (d : Held) → get_or moved at d ≡ raised
  unfolding moved
  at_place d =
      let apart : at ≢ before = omega arith in
      get_or-set_other (set row at raised) before at one d apart ∙ get_or-set_same row at raised d inside

  elsewhere : (k : ℕ) (d : Held) → k ≢ at → k ≢ before → get_or moved k d ≡ get_or row k d
  unfolding moved
  elsewhere k d not_at not_before =
      get_or-set_other (set row at raised) before k one d not_before ∙ get_or-set_other row at k raised d not_at

  pub moved_order : low_of one.resource ≤ low_of other.resource → high_of one.resource ≤ raised.reach → IsInOrderBut at row
      → IsInOrderBut before (set (set row at raised) before one)
  unfolding moved
  moved_order begins ends order i j d le below apart =
      let len = length-set (set row at raised) before one in
      let len' = length-set row at raised in
      elim (cases_eq j at) [
        | inl at_j ↦
            let second : get_or moved j d ≡ raised = subst (λ k. get_or moved k d ≡ raised) (sym at_j) (at_place d) in
            elim (cases_eq i at) [
              | inl at_i ↦
                  let first : get_or moved i d ≡ raised =
                  subst (λ k. get_or moved k d ≡ raised) (sym at_i) (at_place d) in
                  let itself = order before before d (omega arith) (omega arith) (omega arith) in
                  let itself' = covered_as other other (get_or row before d) (get_or row before d) (sym (was d))
                  (sym (was d)) itself in
                  covered_as _ _ raised raised first second
                  (covered_alike other raised raised higher.resource (covers_raised other other raised higher itself'))
              | inr not_at ↦
                  elim (cases_eq i before) [
                    | inl before_i ↦
                        let first : get_or moved i d ≡ one =
                        subst (λ k. get_or moved k d ≡ one) (sym before_i) (at_before d) in
                        let low = ap low_of higher.resource in
                        covered_as _ _ one raised first second
                        (record { begins = omega (arith, low, begins); ends = ends })
                    | inr not_before ↦
                        let there = order i before d (omega arith) (omega arith) (omega arith) in
                        let there' = covered_as (get_or row i d) other (get_or row i d) (get_or row before d) refl
                        (sym (was d)) there in
                        covered_as _ _ (get_or row i d) raised (elsewhere i d not_at not_before) second
                        (covers_raised (get_or row i d) other raised higher there')
                  ]
            ]
        | inr not_at_j ↦
            let second : get_or moved j d ≡ get_or row j d = elsewhere j d not_at_j apart in
            elim (cases_eq i at) [
              | inl at_i ↦
                  let first : get_or moved i d ≡ raised =
                  subst (λ k. get_or moved k d ≡ raised) (sym at_i) (at_place d) in
                  let there = order before j d (omega arith) (omega (arith, len, len')) not_at_j in
                  let there' = covered_as other (get_or row j d) (get_or row before d) (get_or row j d) (sym (was d))
                  refl there in
                  covered_as _ _ raised (get_or row j d) first second
                  (covered_alike other raised (get_or row j d) higher.resource there')
              | inr not_at ↦
                  elim (cases_eq i before) [
                    | inl before_i ↦
                        let first : get_or moved i d ≡ one =
                        subst (λ k. get_or moved k d ≡ one) (sym before_i) (at_before d) in
                        let there = order at j d (omega arith) (omega (arith, len, len')) not_at_j in
                        covered_as _ _ (get_or row at d) (get_or row j d) (first ∙ sym (is d)) second there
                    | inr not_before ↦
                        covered_as _ _ (get_or row i d) (get_or row j d) (elsewhere i d not_at not_before) second
                        (order i j d le (omega (arith, len, len')) not_at_j)
                  ]
            ]
      ]

  pub moved_alike : HoldAlike (set (set row at raised) before one) row
  unfolding weight
  moved_alike test =
      let apart : before ≢ at = omega arith in
      let len = length-set row at raised in
      let first = sum_by-set (weight test) row at raised one inside in
      let second = sum_by-set (weight test) (set row at raised) before one one (omega (arith, len)) in
      let old = ap (weight test) (is one) in
      let gone = ap (weight test) (get_or-set_other row at before raised one apart ∙ was one) in
      let same = same_weight test raised other higher.resource higher.grant in
      omega (arith, first, second, old, gone, same)

not_less : (row : List Held) (at : ℕ) (d : Held) → at < length row → 0 < at → (BeginsBefore at row → ⊥)
    → low_of (get_or row (at - 1) d).resource ≤ low_of (get_or row at d).resource
not_less row at d inside some behind =
    elim (cases_lt (low_of (get_or row at d).resource) (low_of (get_or row (at - 1) d).resource)) [
      | inl less ↦
          absurd (behind (
            some,
            λ e.
                let here = ap (λ (h : Held). low_of h.resource) (get_or_default row at e d inside) in
                let there = ap (λ (h : Held). low_of h.resource) (get_or_default row (at - 1) e d (omega arith)) in
                omega (arith, here, there, less),
          ))
      | inr most ↦ most
    ]

-- The entry at a place gets its reach.
module _ (row : List Held) (at : ℕ) (old new : Held) (inside : at < length row)
    (is : (d : Held) → get_or row at d ≡ old) (resource : new.resource ≡ old.resource) where
  pub reached_order : high_of new.resource ≤ new.reach → (0 < at → (d : Held) → (get_or row (at - 1) d).reach ≤ new.reach)
      → (BeginsBefore at row → ⊥) → IsInOrderBut at row → IsInOrder (set row at new)
  reached_order ends reaches behind order i j d le below =
      let len = length-set row at new in
      let here : get_or (set row at new) at d ≡ new = get_or-set_same row at new d inside in
      elim (cases_eq j at) [
        | inl at_j ↦
            let second : get_or (set row at new) j d ≡ new =
            subst (λ k. get_or (set row at new) k d ≡ new) (sym at_j) here in
            elim (cases_eq i at) [
              | inl at_i ↦
                  let first : get_or (set row at new) i d ≡ new =
                  subst (λ k. get_or (set row at new) k d ≡ new) (sym at_i) here in
                  covered_as _ _ new new first second (record { begins = omega arith; ends = ends })
              | inr not_at ↦
                  let there = order i (at - 1) d (omega arith) (omega arith) (omega arith) in
                  let low = ap low_of (resource ∙ ap (λ (h : Held). h.resource) (sym (is d))) in
                  let high = reaches (omega arith) d in
                  let last : low_of (get_or row (at - 1) d).resource ≤ low_of (get_or row at d).resource =
                  not_less row at d inside (omega arith) behind in
                  covered_as _ _ (get_or row i d) new (get_or-set_other row at i new d not_at) second
                  (record {
                    begins = omega (arith, there.begins, last, low);
                    ends = omega (arith, there.ends, high);
                  })
            ]
        | inr not_at_j ↦
            let second : get_or (set row at new) j d ≡ get_or row j d = get_or-set_other row at j new d not_at_j in
            elim (cases_eq i at) [
              | inl at_i ↦
                  let first : get_or (set row at new) i d ≡ new =
                  subst (λ k. get_or (set row at new) k d ≡ new) (sym at_i) here in
                  let there = order at j d (omega arith) (omega (arith, len)) not_at_j in
                  let there' = covered_as old (get_or row j d) (get_or row at d) (get_or row j d) (sym (is d)) refl
                  there in
                  covered_as _ _ new (get_or row j d) first second
                  (covered_alike old new (get_or row j d) resource there')
              | inr not_at ↦
                  covered_as _ _ (get_or row i d) (get_or row j d) (get_or-set_other row at i new d not_at) second
                  (order i j d le (omega (arith, len)) not_at_j)
            ]
      ]

  pub reached_alike : new.grant ≡ old.grant → HoldAlike (set row at new) row
  unfolding weight
  reached_alike grant test =
      let first = sum_by-set (weight test) row at new old inside in
      let was = ap (weight test) (is old) in
      let same = same_weight test new old resource grant in
      omega (arith, first, was, same)
