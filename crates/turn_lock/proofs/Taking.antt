-- Reading the served ticket, and taking the value, keeps the rule.
use Rattle.std.proofs.Common.{◌≡◌, ◌≢◌, ℕ, zero, suc, ◌+◌, ◌%◌, ◌<◌, ◌≤◌, ◌^◌, List, [], ◌∷◌, length, set, slice_index, Some, None, Option, false, refl, sym, ◌∙◌, subst, ap, arith, ⊎_elim, length-set, get_or}
use mathlib.Core.Option.{some, none, some-ne-none, some-injective}
use mathlib.Core.Logic.{dite}
use mathlib.Core.List.{IsPrefix}
use native.Mathlib.Decide.{ℕ_discrete}
use lib.ListN.{get_elem?}
use Rattle.std.proofs.Math.Nat.{mod-eq_of_lt}
use Rattle.atomic_table.specs.Table.{State, Me, keeps, takes, Allows, stepped}
use Rattle.atomic_table.proofs.Lists.{at_set, set_here, set_else, set_again, one_turn}
use Rattle.turn_lock.specs.Rule.{Ordered, Stands, HasTicket, HasTurn, IsHome, total}
use Rattle.turn_lock.specs.Steps.{Looked}
use Rattle.turn_lock.specs.Hands.{IsWaiting}
use Rattle.turn_lock.specs.declared.view.View.{View}
use Rattle.turn_lock.specs.declared.view.Stage.{Stage}
use Rattle.turn_lock.specs.declared.view.Stage.TheVariants.{Waits, Holds}
use Rattle.turn_lock.proofs.Drawing.{at_bound, total_set}

pub set_kept : (l : List ℕ) (i : ℕ) → set l i (get_or l i 0) ≡ l
set_kept [] i = refl
set_kept (x ∷ xs) zero = refl
set_kept (x ∷ xs) (suc i) = ap (λ (t : List ℕ). x ∷ t) (set_kept xs i)

pub first_of : {A : Type 0} (l : List A) → length l ≡ 1 → (x : A) × (get_elem? l 0 ≡ some x)
first_of [] e = absurd (omega arith)
first_of (x ∷ xs) e = (x, refl)

module _ {B E : Type 0} where
  pub total_change : (f : View B E → ℕ) (views : List (View B E)) (k : ℕ) (v w : View B E) → get_elem? views k ≡ some v → total f (set views k w) + f v ≡ total f views + f w
  total_change f [] k v w e = absurd (some-ne-none v (sym e))
  total_change f (x ∷ xs) zero v w e = let h : f x ≡ f v = ap f (some-injective x v e) in omega arith
  total_change f (x ∷ xs) (suc k) v w e = let h = total_change f xs k v w e in omega arith

  -- views that differ, each with a share, are no more than the shares
  crowd : (line : List ℕ) (views : List (View B E)) → ((i j k : ℕ) → get_elem? line i ≡ some k → get_elem? line j ≡ some k → i ≡ j)
      → ((i k : ℕ) → get_elem? line i ≡ some k → (v : View B E) × (get_elem? views k ≡ some v) × (0 < v.share)) → length line ≤ total (λ v. v.share) views
  crowd [] views distinct each = omega arith
  crowd (k ∷ ks) views distinct each =
      let (v, at, some_share) = each 0 k refl in
      let w : View B E = record v { share = 0 } in
      let sum = total_change (λ u. u.share) views k v w at in
      let rest = crowd ks (set views k w) (λ i j x a b. let e = distinct (suc i) (suc j) x a b in omega arith)
      (λ i x a. let (u, at', p) = each (suc i) x a in
      (u, set_else views k x w (λ same. let e = distinct (suc i) 0 x a (ap some (sym same)) in omega arith) ∙ at', p)) in
      omega arith

module _ {V B E : Type 0} (base_of : V → B) (entries_of : V → List E) (base : B) (start : ℕ) where
  abbrev pub Rule : State (Option V) (View B E) → Type 0
  Rule = Ordered base_of entries_of base start

  pub ticketed : (s : State (Option V) (View B E)) (r : Rule s) (i k : ℕ) → get_elem? r.line i ≡ some k → (v : View B E) × (get_elem? s.views k ≡ some v) × (0 < v.share)
  ticketed s r i k a =
      let (v, at) = r.known i k a in
      let h = r.each k v at in (
        v,
        at,
        dite (ℕ_discrete v.share 0)
            (λ z. absurd (subst (HasTicket ((slice_index s.words 1 + i) % 2 ^ 64)) ((h.spent z).1) (h.in_line i a)))
            (λ nz. omega arith),
      )

  few : (s : State (Option V) (View B E)) (r : Rule s) → length r.line ≤ 1048576
  few s r = let h = crowd r.line s.views r.distinct (ticketed s r) in let e = r.shares in omega arith

  -- the seat whose ticket is served is the first in line
  is_first : (s : State (Option V) (View B E)) (r : Rule s) (id : ℕ) (v : View B E) (n : ℕ) → get_elem? s.views id ≡ some v → v.stage ≡ Waits n
      → slice_index s.words 1 < 2 ^ 64 → slice_index s.words 1 ≡ n → get_elem? r.line 0 ≡ some id
  is_first s r id v n at waits small served =
      let serving : ℕ = slice_index s.words 1 in
      let h = r.each id v at in
      let (j, a) = h.only_in_line n (subst (HasTicket n) (sym waits) refl) in
      let ticket : n ≡ (serving + j) % 2 ^ 64 = subst (HasTicket ((serving + j) % 2 ^ 64)) waits (h.in_line j a) in
      let bound = at_bound r.line j id a in
      let most = few s r in
      let one : serving ≡ serving + j = one_turn serving (serving + j) (2 ^ 64) (omega arith) (omega arith) (mod-eq_of_lt small ∙ served ∙ ticket) in
      let none_before : j ≡ 0 = omega arith in
      subst (λ (x : ℕ). get_elem? r.line x ≡ some id) none_before a

  same_view : (s : State (Option V) (View B E)) (id k : ℕ) (v u : View B E) → get_elem? s.views id ≡ some v → get_elem? s.views k ≡ some u → k ≡ id → v ≡ u
  same_view s id k v u at e same = some-injective v u (sym at ∙ subst (λ (x : ℕ). get_elem? s.views x ≡ some u) same e)

  -- the value is home where the first in line has not taken it
  is_home : (s : State (Option V) (View B E)) (r : Rule s) (id : ℕ) (v : View B E) (n : ℕ) → get_elem? s.views id ≡ some v → v.stage ≡ Waits n → get_elem? r.line 0 ≡ some id
      → (x : V) × (get_elem? s.homes 0 ≡ some (some (Some x))) × (base_of x ≡ base) × (entries_of x ≡ r.full)
  is_home s r id v n at waits front = let (h, e) = first_of s.homes r.one_slot in go h e
    where
      open_at : (y : Option V) → get_elem? s.homes 0 ≡ some (some y) → IsHome base_of entries_of base r.full y
          → (x : V) × (get_elem? s.homes 0 ≡ some (some (Some x))) × (base_of x ≡ base) × (entries_of x ≡ r.full)
      open_at None e bad = absurd bad
      open_at (Some x) e good = (x, e, good.0, good.1)

      go : (h : mathlib.Core.Option.Option (Option V)) → get_elem? s.homes 0 ≡ some h
          → (x : V) × (get_elem? s.homes 0 ≡ some (some (Some x))) × (base_of x ≡ base) × (entries_of x ≡ r.full)
      go none e =
          let (k, u, eu, serves) = r.held e in
          let front' = (r.each k u eu).first_in_line serves in
          let same : k ≡ id = some-injective k id (sym front' ∙ front) in
          absurd (subst HasTurn (ap (λ (x : View B E). x.stage) (sym (same_view s id k v u at eu same)) ∙ waits) serves)
      go (some y) e = open_at y e (r.home y e)

  takes_it : (slots id : ℕ) (v : View B E) (n : ℕ) (s : State (Option V) (View B E)) (r : Rule s) → v.stage ≡ Waits n → get_elem? s.views id ≡ some v
      → slice_index s.words 1 < 2 ^ 64 → slice_index s.words 1 ≡ n
      → (w : View B E) × (x : V) × (get_elem? s.homes 0 ≡ some (some (Some x))) × Rule (stepped s 1 (slice_index s.words 1) id [] w (takes 0 (Some x)))
      × (v.base ≡ Some (base_of x)) × IsPrefix v.seen (entries_of x) × (w ≡ record v { stage = Holds n (entries_of x) false })
  takes_it slots id v n s r waits at small served =
      let front = is_first s r id v n at waits small served in
      let (x, home, base_is, full_is) = is_home s r id v n at waits front in
      let mine = r.each id v at in
      let (v', at', some_share) = ticketed s r 0 id front in
      let v_is : v ≡ v' = some-injective v v' (sym at ∙ at') in
      let share : 0 < v.share = subst (λ (u : View B E). 0 < u.share) (sym v_is) some_share in
      let known = mine.unspent share in
      let w : View B E = record v { stage = Holds n (entries_of x) false } in
      let here : get_elem? (set s.views id w) id ≡ some w = set_here s.views id w (at_bound s.views id v at) in
      let words : set s.words 1 (slice_index s.words 1) ≡ s.words = set_kept s.words 1 in
      let serving : slice_index (set s.words 1 (slice_index s.words 1)) 1 ≡ slice_index s.words 1 = ap (λ (l : List ℕ). slice_index l 1) words in
      let stands : Stands base start r.full r.line (slice_index s.words 1) id w = record {
        spent = λ z. absurd (omega arith);
        unspent = λ p. known;
        in_line = λ j a. subst (HasTicket ((slice_index s.words 1 + j) % 2 ^ 64)) waits (mine.in_line j a);
        only_in_line = λ t has. mine.only_in_line t (subst (HasTicket t) (sym waits) has);
        first_in_line = λ _. front;
        taken = full_is;
      } in (
        w,
        x,
        home,
        record {
          full = r.full;
          line = r.line;
          three_words = length-set s.words 1 _ ∙ r.three_words;
          one_slot = length-set s.homes 0 _ ∙ r.one_slot;
          tickets = ap (λ (l : List ℕ). slice_index l 0) words ∙ r.tickets ∙ ap (λ (k : ℕ). (k + length r.line) % 2 ^ 64) (sym serving);
          count = ap (λ (l : List ℕ). slice_index l 2) words ∙ r.count;
          fits = r.fits;
          distinct = r.distinct;
          known = λ i k a. dite (ℕ_discrete k id) (λ e. (w, subst (λ (y : ℕ). get_elem? (set s.views id w) y ≡ some w) (sym e) here))
              (λ ne. let was = r.known i k a in (was.0, set_else s.views id k w ne ∙ was.1));
          mine = let same = total_set (λ u. u.mine) s.views id v w at refl in let old = r.mine in omega arith;
          shares = total_set (λ u. u.share) s.views id v w at refl ∙ r.shares;
          each = λ k u e. subst (λ (y : ℕ). Stands base start r.full r.line y k u) (sym serving) (⊎_elim
              (λ (t : (k ≡ id) × (w ≡ u)). subst (λ (y : View B E). Stands base start r.full r.line (slice_index s.words 1) k y) t.1
              (subst (λ (y : ℕ). Stands base start r.full r.line (slice_index s.words 1) y w) (sym t.0) stands))
              (λ (t : (k ≢ id) × (get_elem? s.views k ≡ some u)). r.each k u t.1)
              (at_set s.views id k w u e));
          longest = let (k, u, e, p, l) = r.longest in dite (ℕ_discrete k id)
              (λ same. (id, w, here, share, ap (λ (y : View B E). y.seen) (same_view s id k v u at e same) ∙ l))
              (λ ne. (k, u, set_else s.views id k w ne ∙ e, p, l));
          home = λ y e. let out = set_here s.homes 0 none (let z = r.one_slot in omega arith) in absurd (some-ne-none y (sym (some-injective _ _ (sym out ∙ e))));
          out = λ k u e serves. set_here s.homes 0 none (let z = r.one_slot in omega arith);
          held = λ _. (id, w, here, tt);
        },
        known.0 ∙ ap Some (sym base_is),
        subst (λ (l : List E). IsPrefix v.seen l) (sym full_is) known.2,
        refl,
      )

  pub same_state : (id : ℕ) (v : View B E) (s : State (Option V) (View B E)) → get_elem? s.views id ≡ some v → s ≡ stepped s 1 (slice_index s.words 1) id [] v keeps
  same_state id v s at = λ i. record { words = sym (set_kept s.words 1) i; homes = s.homes; views = sym (set_again s.views id v at) i }

  looks : (slots id : ℕ) (v : View B E) (n : ℕ) → v.stage ≡ Waits n
      → Allows Rule slots id (v, []) 1 (λ k. k) (Looked base_of entries_of (v, []))
  looks slots id v n waits s r sizes at small = dite (ℕ_discrete (slice_index s.words 1) n)
      (λ served.
      let (w, x, home, rule, base_is, prefix, w_is) = takes_it slots id v n s r waits at small served in (
        w,
        takes 0 (Some x),
        home,
        rule,
        (λ m is.
            let m_is : n ≡ m = subst (λ (t : Stage E). HasTicket m t) waits (subst (HasTicket m) (sym is) refl) in (
              (λ _. (x, refl, base_is, prefix, w_is ∙ ap (λ (k : ℕ). record v { stage = Holds k (entries_of x) false }) m_is)),
              (λ ne. absurd (ne (served ∙ m_is))),
            )),
      ))
      (λ other. (
        v,
        keeps,
        tt,
        subst Rule (same_state id v s at) r,
        (λ m is.
            let m_is : n ≡ m = subst (λ (t : Stage E). HasTicket m t) waits (subst (HasTicket m) (sym is) refl) in (
              (λ e. absurd (other (e ∙ sym m_is))),
              (λ _. refl),
            )),
      ))

  pub looks_at : (slots id : ℕ) (me : Me (Option V) (View B E)) (n : ℕ) → IsWaiting n me → Allows Rule slots id me 1 (λ k. k) (Looked base_of entries_of me)
  looks_at slots id me n (empty, waits) =
      subst (λ (c : List (ℕ × Option V)). Allows Rule slots id (me.0, c) 1 (λ k. k) (Looked base_of entries_of (me.0, c))) (sym empty)
      (looks slots id me.0 n waits)
