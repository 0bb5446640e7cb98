-- What the rule says once one view has every share.
use Rattle.std.proofs.Common.{◌≡◌, ◌≢◌, ℕ, zero, suc, ◌+◌, ◌<◌, ◌≤◌, List, [], ◌∷◌, length, set, Some, None, Option, refl, sym, ◌∙◌, subst, ap, arith}
use mathlib.Core.Option.{some, none, some-ne-none, some-injective}
use mathlib.Core.Logic.{dite}
use mathlib.Core.List.{IsPrefix}
use native.Mathlib.Decide.{ℕ_discrete}
use lib.ListN.{get_elem?}
use Rattle.atomic_table.specs.Table.{State, Final, Seen}
use Rattle.atomic_table.proofs.Lists.{set_else}
use Rattle.turn_lock.specs.Seen.{whole_share}
use Rattle.turn_lock.specs.Rule.{Ordered, HasTurn, IsHome, total}
use Rattle.turn_lock.specs.declared.view.View.{View}
use Rattle.turn_lock.specs.declared.view.Stage.TheVariants.{Away}
use Rattle.turn_lock.proofs.Taking.{total_change, ticketed, first_of}

module _ {B E : Type 0} where
  at_least : (f : View B E → ℕ) (views : List (View B E)) (k : ℕ) (v : View B E) → get_elem? views k ≡ some v → f v ≤ total f views
  at_least f [] k v e = absurd (some-ne-none v (sym e))
  at_least f (x ∷ xs) zero v e = let h : f x ≡ f v = ap f (some-injective x v e) in omega arith
  at_least f (x ∷ xs) (suc k) v e = let h = at_least f xs k v e in omega arith

  none_of : (f : View B E → ℕ) (views : List (View B E)) → ((k : ℕ) (u : View B E) → get_elem? views k ≡ some u → f u ≡ 0) → total f views ≡ 0
  none_of f [] each = refl
  none_of f (x ∷ xs) each = let h = each 0 x refl in let t = none_of f xs (λ k u e. each (suc k) u e) in omega arith

  -- only one view counts
  alone : (f : View B E → ℕ) (views : List (View B E)) (id : ℕ) (v : View B E) → get_elem? views id ≡ some v
      → ((k : ℕ) (u : View B E) → get_elem? views k ≡ some u → k ≢ id → f u ≡ 0) → total f views ≡ f v
  alone f [] id v e each = absurd (some-ne-none v (sym e))
  alone f (x ∷ xs) zero v e each = let h : f x ≡ f v = ap f (some-injective x v e) in let t = none_of f xs (λ k u a. each (suc k) u a (λ bad. omega arith)) in omega arith
  alone f (x ∷ xs) (suc id) v e each = let h = each 0 x refl (λ bad. omega arith) in let t = alone f xs id v e (λ k u a ne. each (suc k) u a (λ same. ne (omega arith))) in omega arith

  -- beside a view with all the shares no other has one
  no_other : (all : ℕ) (views : List (View B E)) (id k : ℕ) (v u : View B E) → total (λ x. x.share) views ≡ all → get_elem? views id ≡ some v → v.share ≡ all
      → get_elem? views k ≡ some u → k ≢ id → u.share ≡ 0
  no_other all views id k v u sum at whole e apart =
      let w : View B E = record v { share = 0 } in
      let change = total_change (λ x. x.share) views id v w at in
      let most = at_least (λ x. x.share) (set views id w) k u (set_else views id k w apart ∙ e) in
      omega arith

module _ {V B E : Type 0} (base_of : V → B) (entries_of : V → List E) (base : B) (start : ℕ) where
  -- the value that the slots hold
  pub closes : (id : ℕ) (v : View B E) (words : List ℕ) (xs : List (Option V)) → v.stage ≡ Away → v.share ≡ whole_share
      → Final (Seen (Ordered base_of entries_of base start) id v) words xs
      → (x : V) × (get_elem? xs 0 ≡ some (Some x)) × (base_of x ≡ base) × IsPrefix v.seen (entries_of x) × (length (entries_of x) ≡ start + v.mine)
  closes id v words xs away whole final = go h e
    where
      s : State (Option V) (View B E)
      s = final.0

      r : Ordered base_of entries_of base start s
      r = final.1.0

      at : get_elem? s.views id ≡ some v
      at = final.1.1

      others : (k : ℕ) (u : View B E) → get_elem? s.views k ≡ some u → k ≢ id → u.share ≡ 0
      others k u e apart = no_other whole_share s.views id k v u r.shares at whole e apart

      mine : total (λ u. u.mine) s.views ≡ v.mine
      mine = alone (λ u. u.mine) s.views id v at (λ k u e apart. ((r.each k u e).spent (others k u e apart)).3)

      h : mathlib.Core.Option.Option (Option V)
      h = (first_of s.homes r.one_slot).0

      e : get_elem? s.homes 0 ≡ some h
      e = (first_of s.homes r.one_slot).1

      found : (y : Option V) → get_elem? s.homes 0 ≡ some (some y) → IsHome base_of entries_of base r.full y
          → (x : V) × (get_elem? xs 0 ≡ some (Some x)) × (base_of x ≡ base) × IsPrefix v.seen (entries_of x) × (length (entries_of x) ≡ start + v.mine)
      found None a bad = absurd bad
      found (Some x) a good = (
        x,
        final.4 0 (Some x) a,
        good.0,
        subst (λ (l : List E). IsPrefix v.seen l) (sym good.1) ((r.each id v at).unspent (omega arith)).2,
        (let m = mine in let n = r.mine in let l = ap length good.1 in omega arith),
      )

      go : (y : mathlib.Core.Option.Option (Option V)) → get_elem? s.homes 0 ≡ some y
          → (x : V) × (get_elem? xs 0 ≡ some (Some x)) × (base_of x ≡ base) × IsPrefix v.seen (entries_of x) × (length (entries_of x) ≡ start + v.mine)
      go none a =
          let (k, u, eu, serves) = r.held a in
          let (u', at', p) = ticketed base_of entries_of base start s r 0 k ((r.each k u eu).first_in_line serves) in
          let same : u' ≡ u = some-injective u' u (sym at' ∙ eu) in
          let share : 0 < u.share = subst (λ (x : View B E). 0 < x.share) same p in
          dite (ℕ_discrete k id)
          (λ mine_it. let is : v ≡ u = some-injective v u (sym at ∙ subst (λ (x : ℕ). get_elem? s.views x ≡ some u) mine_it eu) in
          absurd (subst HasTurn (ap (λ (x : View B E). x.stage) (sym is) ∙ away) serves))
          (λ apart. let none_left = others k u eu apart in absurd (omega arith))
      go (some y) a = found y a (r.home y a)
