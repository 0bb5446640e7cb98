-- Drawing a ticket keeps the rule.
use Rattle.std.proofs.Common.{◌≡◌, ◌≢◌, ℕ, zero, suc, ◌+◌, ◌%◌, ◌<◌, ◌^◌, ◌⊎◌, List, [], ◌∷◌, ◌++◌, length, set, slice_index, Option, refl, sym, ◌∙◌, subst, ap, arith, inl, inr, ⊎_elim, length-set, get_or-set_same, get_or-set_other, length-append}
use Rattle.std.proofs.Math.Nat.{mod-add-mod}
use mathlib.Core.Option.{some, some-ne-none, some-injective}
use mathlib.Core.Logic.{dite}
use native.Mathlib.Decide.{ℕ_discrete}
use lib.ListN.{get_elem?}
use Rattle.atomic_table.specs.Table.{Me, keeps, Allows}
use Rattle.atomic_table.proofs.Lists.{at_set, at_longer, at_last, set_here, set_else}
use Rattle.turn_lock.specs.Rule.{Ordered, Stands, HasTicket, HasTurn, total}
use Rattle.turn_lock.specs.Steps.{Drew}
use Rattle.turn_lock.specs.Hands.{IsAway}
use Rattle.turn_lock.specs.declared.view.View.{View}
use Rattle.turn_lock.specs.declared.view.Stage.TheVariants.{Away, Waits}

-- where an item of a longer list stands
pub at_snoc_place : {A : Type 0} (l : List A) (a b : A) (j : ℕ) → get_elem? (l ++ a ∷ []) j ≡ some b → (get_elem? l j ≡ some b) ⊎ ((j ≡ length l) × (a ≡ b))
at_snoc_place [] a b zero e = inr (refl, some-injective a b e)
at_snoc_place [] a b (suc j) e = absurd (some-ne-none b (sym e))
at_snoc_place (x ∷ xs) a b zero e = inl e
at_snoc_place (x ∷ xs) a b (suc j) e = ⊎_elim (λ f. inl f) (λ f. inr (ap suc f.0, f.1)) (at_snoc_place xs a b j e)

pub at_bound : {A : Type 0} (l : List A) (j : ℕ) (a : A) → get_elem? l j ≡ some a → j < length l
at_bound [] j a e = absurd (some-ne-none a (sym e))
at_bound (x ∷ xs) zero a e = omega arith
at_bound (x ∷ xs) (suc j) a e = let h = at_bound xs j a e in omega arith

module _ {B E : Type 0} where
  pub total_set : (f : View B E → ℕ) (views : List (View B E)) (k : ℕ) (v w : View B E) → get_elem? views k ≡ some v → f w ≡ f v → total f (set views k w) ≡ total f views
  total_set f [] k v w e same = absurd (some-ne-none v (sym e))
  total_set f (x ∷ xs) zero v w e same = let h : f x ≡ f v = ap f (some-injective x v e) in omega arith
  total_set f (x ∷ xs) (suc k) v w e same = let h = total_set f xs k v w e same in omega arith

  -- the view with a ticket
  abbrev pub waits : View B E → ℕ → View B E
  waits v n = record v { stage = Waits n; entered = v.entered + 1 }

  pub stands_drawer : (base : B) (start : ℕ) (full : List E) (line : List ℕ) (serving id : ℕ) (v : View B E) (n : ℕ) → Stands base start full line serving id v
      → v.stage ≡ Away → 0 < v.share → n ≡ (serving + length line) % 2 ^ 64 → Stands base start full (line ++ id ∷ []) serving id (waits v n)
  stands_drawer base start full line serving id v n h away some_share found = record {
    spent = λ z. absurd (omega arith);
    unspent = λ p. h.unspent p;
    in_line = λ j at. ⊎_elim
        (λ (old : get_elem? line j ≡ some id). absurd (subst (HasTicket ((serving + j) % 2 ^ 64)) away (h.in_line j old)))
        (λ (new : (j ≡ length line) × (id ≡ id)). found ∙ ap (λ (k : ℕ). (serving + k) % 2 ^ 64) (sym new.0))
        (at_snoc_place line id id j at);
    only_in_line = λ t has. (length line, at_last line id (length line) refl);
    first_in_line = λ bad. absurd bad;
    taken = tt;
  }

  pub stands_other : (base : B) (start : ℕ) (full : List E) (line : List ℕ) (serving id k : ℕ) (v : View B E) → Stands base start full line serving k v
      → k ≢ id → Stands base start full (line ++ id ∷ []) serving k v
  stands_other base start full line serving id k v h apart = record {
    spent = h.spent;
    unspent = h.unspent;
    in_line = λ j at. ⊎_elim (λ (old : get_elem? line j ≡ some k). h.in_line j old) (λ (new : (j ≡ length line) × (id ≡ k)). absurd (apart (sym new.1))) (at_snoc_place line id k j at);
    only_in_line = λ t has. let was = h.only_in_line t has in (was.0, at_longer line (id ∷ []) was.0 k was.1);
    first_in_line = λ at. at_longer line (id ∷ []) 0 k (h.first_in_line at);
    taken = h.taken;
  }

  pub not_in_line : (base : B) (start : ℕ) (full : List E) (line : List ℕ) (serving id : ℕ) (v : View B E) → Stands base start full line serving id v → v.stage ≡ Away
      → (j : ℕ) → ¬ (get_elem? line j ≡ some id)
  not_in_line base start full line serving id v h away j at = subst (HasTicket ((serving + j) % 2 ^ 64)) away (h.in_line j at)

module _ {V B E : Type 0} (base_of : V → B) (entries_of : V → List E) (base : B) (start : ℕ) where
  draws : (slots id : ℕ) (v : View B E) → v.stage ≡ Away → 0 < v.share
      → Allows (Ordered base_of entries_of base start) slots id (v, []) 0 (λ n. (n + 1) % 2 ^ 64) (Drew {S = Option V} (v, []))
  draws slots id v away some_share s r sizes at small =
      let n : ℕ = slice_index s.words 0 in
      let w : View B E = waits v n in
      let next : ℕ = (n + 1) % 2 ^ 64 in
      let mine = r.each id v at in
      let absent = not_in_line base start r.full r.line (slice_index s.words 1) id v mine away in
      let serving : slice_index (set s.words 0 next) 1 ≡ slice_index s.words 1 = get_or-set_other s.words 0 1 next 0 (λ e. omega arith) in
      let three_words = r.three_words in
      let ticket : slice_index (set s.words 0 next) 0 ≡ next = get_or-set_same s.words 0 next 0 (omega arith) in
      let more : next ≡ (slice_index s.words 1 + length (r.line ++ id ∷ [])) % 2 ^ 64 =
      ap (λ (k : ℕ). (k + 1) % 2 ^ 64) r.tickets ∙ mod-add-mod (slice_index s.words 1 + length r.line) (2 ^ 64) 1
      ∙ ap (λ (k : ℕ). k % 2 ^ 64) (omega (arith, length-append r.line (id ∷ []))) in
      let here : get_elem? (set s.views id w) id ≡ some w = set_here s.views id w (at_bound s.views id v at) in (
        w,
        keeps,
        tt,
        record {
          full = r.full;
          line = r.line ++ id ∷ [];
          three_words = length-set s.words 0 next ∙ r.three_words;
          one_slot = r.one_slot;
          tickets = ticket ∙ more ∙ ap (λ (k : ℕ). (k + length (r.line ++ id ∷ [])) % 2 ^ 64) (sym serving);
          count = get_or-set_other s.words 0 2 next 0 (λ e. omega arith) ∙ r.count;
          fits = r.fits;
          distinct = λ i j k a b. ⊎_elim
              (λ (old : get_elem? r.line i ≡ some k). ⊎_elim (λ (old' : get_elem? r.line j ≡ some k). r.distinct i j k old old')
              (λ (new : (j ≡ length r.line) × (id ≡ k)). absurd (absent i (old ∙ ap some (sym new.1)))) (at_snoc_place r.line id k j b))
              (λ (new : (i ≡ length r.line) × (id ≡ k)). ⊎_elim (λ (old' : get_elem? r.line j ≡ some k). absurd (absent j (old' ∙ ap some (sym new.1))))
              (λ (new' : (j ≡ length r.line) × (id ≡ k)). new.0 ∙ sym new'.0) (at_snoc_place r.line id k j b))
              (at_snoc_place r.line id k i a);
          known = λ i k a. dite (ℕ_discrete k id) (λ e. (w, subst (λ (x : ℕ). get_elem? (set s.views id w) x ≡ some w) (sym e) here))
              (λ ne. ⊎_elim (λ (old : get_elem? r.line i ≡ some k). let was = r.known i k old in (was.0, set_else s.views id k w ne ∙ was.1))
              (λ (new : (i ≡ length r.line) × (id ≡ k)). absurd (ne (sym new.1))) (at_snoc_place r.line id k i a));
          mine = let same = total_set (λ u. u.mine) s.views id v w at refl in let old = r.mine in omega arith;
          shares = total_set (λ u. u.share) s.views id v w at refl ∙ r.shares;
          each = λ k u e. ⊎_elim
              (λ (t : (k ≡ id) × (w ≡ u)). subst (λ (x : View B E). Stands base start r.full (r.line ++ id ∷ []) (slice_index (set s.words 0 next) 1) k x) t.1
              (subst (λ (x : ℕ). Stands base start r.full (r.line ++ id ∷ []) (slice_index (set s.words 0 next) 1) x w) (sym t.0)
              (subst (λ (x : ℕ). Stands base start r.full (r.line ++ id ∷ []) x id w) (sym serving)
              (stands_drawer base start r.full r.line (slice_index s.words 1) id v n mine away some_share r.tickets))))
              (λ (t : (k ≢ id) × (get_elem? s.views k ≡ some u)). subst (λ (x : ℕ). Stands base start r.full (r.line ++ id ∷ []) x k u) (sym serving)
              (stands_other base start r.full r.line (slice_index s.words 1) id k u (r.each k u t.1) t.0))
              (at_set s.views id k w u e);
          longest = let (k, u, e, p, l) = r.longest in dite (ℕ_discrete k id)
              (λ same. let is : v ≡ u = some-injective v u (sym at ∙ subst (λ (x : ℕ). get_elem? s.views x ≡ some u) same e) in (id, w, here, some_share, ap (λ (x : View B E). x.seen) is ∙ l))
              (λ ne. (k, u, set_else s.views id k w ne ∙ e, p, l));
          home = r.home;
          out = λ k u e serves. ⊎_elim (λ (t : (k ≡ id) × (w ≡ u)). absurd (subst (λ (x : View B E). HasTurn x.stage) (sym t.1) serves))
              (λ (t : (k ≢ id) × (get_elem? s.views k ≡ some u)). r.out k u t.1 serves) (at_set s.views id k w u e);
          held = λ out. let (k, u, e, serves) = r.held out in dite (ℕ_discrete k id)
              (λ same. let is : v ≡ u = some-injective v u (sym at ∙ subst (λ (x : ℕ). get_elem? s.views x ≡ some u) same e) in
              absurd (subst HasTurn (ap (λ (x : View B E). x.stage) (sym is) ∙ away) serves))
              (λ ne. (k, u, set_else s.views id k w ne ∙ e, serves));
        },
        (refl, refl),
      )

  pub draws_at : (slots id : ℕ) (me : Me (Option V) (View B E)) → IsAway me → Allows (Ordered base_of entries_of base start) slots id me 0 (λ n. (n + 1) % 2 ^ 64) (Drew {S = Option V} me)
  draws_at slots id me (empty, away, some_share) =
      subst (λ (c : List (ℕ × Option V)). Allows (Ordered base_of entries_of base start) slots id (me.0, c) 0 (λ n. (n + 1) % 2 ^ 64) (Drew {S = Option V} (me.0, c))) (sym empty)
      (draws slots id me.0 away some_share)
