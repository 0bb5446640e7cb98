-- Cutting a view in two and joining two views keep the rule.
use Rattle.std.proofs.Common.{◌≡◌, ◌≢◌, ℕ, ◌+◌, ◌<◌, ◌≤◌, ◌⊎◌, List, [], ◌∷◌, ◌++◌, length, set, slice_index, Option, Bool, true, false, nat_le, refl, sym, ◌∙◌, subst, ap, arith, inl, inr, ⊎_elim, length-set, append-nil, length-append}
use Rattle.std.specs.Bool.{if◌then◌else◌}
use Rattle.std.proofs.lemmas.Bool.Decides.{nat_tests}
use mathlib.Core.Option.{some, some-injective}
use mathlib.Core.Logic.{dite}
use mathlib.Core.List.{IsPrefix}
use native.Mathlib.Decide.{ℕ_discrete}
use lib.ListN.{get_elem?}
use Rattle.atomic_table.specs.Table.{State, Splits, Joins}
use Rattle.atomic_table.proofs.Lists.{at_set, set_here, set_else, at_longer}
use Rattle.turn_lock.specs.Seen.{longer}
use Rattle.turn_lock.specs.Rule.{Ordered, Stands, HasTicket, HasTurn, TakenWith, total}
use Rattle.turn_lock.specs.Steps.{kept_view, split_view, shorter, joined_view, spent_view}
use Rattle.turn_lock.specs.declared.view.View.{View}
use Rattle.turn_lock.specs.declared.view.Stage.TheVariants.{Away}
use Rattle.turn_lock.proofs.Drawing.{at_bound, at_snoc_place, not_in_line}
use Rattle.turn_lock.proofs.Taking.{total_change}

module _ {B E : Type 0} where
  total_more : (f : View B E → ℕ) (views : List (View B E)) (v : View B E) → total f (views ++ v ∷ []) ≡ total f views + f v
  total_more f [] v = omega arith
  total_more f (x ∷ xs) v = let h = total_more f xs v in omega arith

longer_is : {E : Type 0} (P : List E → Type 0) (xs ys : List E) → P xs → P ys → P (longer xs ys)
longer_is P xs ys p q = go (nat_le (length xs) (length ys))
  where
    go : (b : Bool) → P (if b then ys else xs)
    go true = q
    go false = p

shorter_is : {E : Type 0} (P : List E → Type 0) (xs ys : List E) → P xs → P ys → P (shorter xs ys)
shorter_is P xs ys p q = go (nat_le (length xs) (length ys))
  where
    go : (b : Bool) → P (if b then xs else ys)
    go true = p
    go false = q

prefix_length : {E : Type 0} (xs ys : List E) → IsPrefix xs ys → length xs ≤ length ys
prefix_length xs ys p = let e = ap length p.1 in let l = length-append xs p.0 in omega arith

prefix_whole : {E : Type 0} (xs ys : List E) → IsPrefix xs ys → length ys ≤ length xs → xs ≡ ys
prefix_whole {E} xs ys p le = go p.0 p.1
  where
    go : (rest : List E) → xs ++ rest ≡ ys → xs ≡ ys
    go [] e = sym (append-nil xs) ∙ e
    go (x ∷ t) e = let h = ap length e in let l = length-append xs (x ∷ t) in absurd (omega arith)

longer_full : {E : Type 0} (xs ys full : List E) → IsPrefix xs full → IsPrefix ys full → (xs ≡ full) ⊎ (ys ≡ full) → longer xs ys ≡ full
longer_full {E} xs ys full p q one = go (nat_le (length xs) (length ys)) refl
  where
    go : (b : Bool) → nat_le (length xs) (length ys) ≡ b → (if b then ys else xs) ≡ full
    go true is = ⊎_elim (λ (e : xs ≡ full). let le : length xs ≤ length ys = grind (arith, nat_tests) in let h = ap length e in prefix_whole ys full q (omega arith)) (λ (e : ys ≡ full). e) one
    go false is = ⊎_elim (λ (e : xs ≡ full). e) (λ (e : ys ≡ full). let lt : length ys < length xs = grind (arith, nat_tests) in let h = ap length e in let l = prefix_length xs full p in absurd (omega arith)) one

module _ {V B E : Type 0} (base_of : V → B) (entries_of : V → List E) (base : B) (start : ℕ) where
  abbrev Rule : State (Option V) (View B E) → Type 0
  Rule = Ordered base_of entries_of base start

  pub splits : (id : ℕ) (v : View B E) → v.stage ≡ Away → 2 ≤ v.share → Splits Rule id v (kept_view v) (split_view v)
  splits id v away two s r at =
      let l : View B E = kept_view v in
      let n : View B E = split_view v in
      let mid : List (View B E) = set s.views id l in
      let mine = r.each id v at in
      let known = mine.unspent (omega arith) in
      let here : get_elem? mid id ≡ some l = set_here s.views id l (at_bound s.views id v at) in
      let same_len : length mid ≡ length s.views = length-set s.views id l in
      let absent : (j : ℕ) → ¬ (get_elem? r.line j ≡ some (length mid)) = λ j a.
      let was = r.known j (length mid) a in let z = at_bound s.views (length mid) was.0 was.1 in absurd (omega arith) in
      record {
        full = r.full;
        line = r.line;
        three_words = r.three_words;
        one_slot = r.one_slot;
        tickets = r.tickets;
        count = r.count;
        fits = r.fits;
        distinct = r.distinct;
        known = λ i k a. dite (ℕ_discrete k id) (λ e. (l, at_longer mid (n ∷ []) k l (subst (λ (y : ℕ). get_elem? mid y ≡ some l) (sym e) here)))
            (λ ne. let was = r.known i k a in (was.0, at_longer mid (n ∷ []) k was.0 (set_else s.views id k l ne ∙ was.1)));
        mine = let c = total_change (λ u. u.mine) s.views id v l at in let m = total_more (λ u. u.mine) mid n in let old = r.mine in omega arith;
        shares = let c = total_change (λ u. u.share) s.views id v l at in let m = total_more (λ u. u.share) mid n in let old = r.shares in omega arith;
        each = λ k u e. ⊎_elim
            (λ (old : get_elem? mid k ≡ some u). ⊎_elim
            (λ (t : (k ≡ id) × (l ≡ u)). subst (λ (y : View B E). Stands base start r.full r.line (slice_index s.words 1) k y) t.1
            (subst (λ (y : ℕ). Stands base start r.full r.line (slice_index s.words 1) y l) (sym t.0) (record {
              spent = λ z. absurd (omega arith);
              unspent = λ p. known;
              in_line = mine.in_line;
              only_in_line = mine.only_in_line;
              first_in_line = mine.first_in_line;
              taken = subst (TakenWith r.full l) (sym away) tt;
            })))
            (λ (t : (k ≢ id) × (get_elem? s.views k ≡ some u)). r.each k u t.1) (at_set s.views id k l u old))
            (λ (t : (k ≡ length mid) × (n ≡ u)). subst (λ (y : View B E). Stands base start r.full r.line (slice_index s.words 1) k y) t.1
            (subst (λ (y : ℕ). Stands base start r.full r.line (slice_index s.words 1) y n) (sym t.0) (record {
              spent = λ z. absurd (omega arith);
              unspent = λ p. known;
              in_line = λ j a. absurd (absent j a);
              only_in_line = λ m has. absurd has;
              first_in_line = λ bad. absurd bad;
              taken = tt;
            })))
            (at_snoc_place mid n u k e);
        longest = let (k, u, e, p, q) = r.longest in dite (ℕ_discrete k id)
            (λ same. (id, l, at_longer mid (n ∷ []) id l here, omega arith, ap (λ (y : View B E). y.seen) (some-injective v u (sym at ∙ subst (λ (x : ℕ). get_elem? s.views x ≡ some u) same e)) ∙ q))
            (λ ne. (k, u, at_longer mid (n ∷ []) k u (set_else s.views id k l ne ∙ e), p, q));
        home = r.home;
        out = λ k u e serves. ⊎_elim
            (λ (old : get_elem? mid k ≡ some u). ⊎_elim (λ (t : (k ≡ id) × (l ≡ u)). absurd (subst HasTurn away (subst (λ (y : View B E). HasTurn y.stage) (sym t.1) serves)))
            (λ (t : (k ≢ id) × (get_elem? s.views k ≡ some u)). r.out k u t.1 serves) (at_set s.views id k l u old))
            (λ (t : (k ≡ length mid) × (n ≡ u)). absurd (subst (λ (y : View B E). HasTurn y.stage) (sym t.1) serves))
            (at_snoc_place mid n u k e);
        held = λ none_home. let (k, u, e, serves) = r.held none_home in dite (ℕ_discrete k id)
            (λ same. absurd (subst HasTurn away (subst (λ (y : View B E). HasTurn y.stage) (sym (some-injective v u (sym at ∙ subst (λ (x : ℕ). get_elem? s.views x ≡ some u) same e))) serves)))
            (λ ne. (k, u, at_longer mid (n ∷ []) k u (set_else s.views id k l ne ∙ e), serves));
      }

  pub joins : (id : ℕ) (v : View B E) (other : ℕ) (w : View B E) → v.stage ≡ Away → w.stage ≡ Away → 0 < v.share → 0 < w.share
      → Joins Rule id v other w (joined_view v w) spent_view
  joins id v other w away away' some_v some_w s r at apart at_mid =
      let b : View B E = joined_view v w in
      let z : View B E = spent_view in
      let mid : List (View B E) = set s.views id b in
      let end : List (View B E) = set mid other z in
      let at' : get_elem? s.views other ≡ some w = sym (set_else s.views id other b apart) ∙ at_mid in
      let here : get_elem? mid id ≡ some b = set_here s.views id b (at_bound s.views id v at) in
      let here' : get_elem? end id ≡ some b = set_else mid other id z (λ e. apart (sym e)) ∙ here in
      let one = (r.each id v at).unspent some_v in
      let two = (r.each other w at').unspent some_w in
      let gone = not_in_line base start r.full r.line (slice_index s.words 1) id v (r.each id v at) away in
      let gone' = not_in_line base start r.full r.line (slice_index s.words 1) other w (r.each other w at') away' in
      let kept : (k : ℕ) (u : View B E) → k ≢ id → k ≢ other → get_elem? s.views k ≡ some u → get_elem? end k ≡ some u =
      λ k u ne ne' e. set_else mid other k z ne' ∙ (set_else s.views id k b ne ∙ e) in
      record {
        full = r.full;
        line = r.line;
        three_words = r.three_words;
        one_slot = r.one_slot;
        tickets = r.tickets;
        count = r.count;
        fits = r.fits;
        distinct = r.distinct;
        known = λ i k a. let was = r.known i k a in (was.0, kept k was.0 (λ e. gone i (a ∙ ap some e)) (λ e. gone' i (a ∙ ap some e)) was.1);
        mine = let c = total_change (λ u. u.mine) s.views id v b at in let d = total_change (λ u. u.mine) mid other w z at_mid in let old = r.mine in omega arith;
        shares = let c = total_change (λ u. u.share) s.views id v b at in let d = total_change (λ u. u.share) mid other w z at_mid in let old = r.shares in omega arith;
        each = λ k u e. ⊎_elim
            (λ (t : (k ≡ other) × (z ≡ u)). subst (λ (y : View B E). Stands base start r.full r.line (slice_index s.words 1) k y) t.1
            (subst (λ (y : ℕ). Stands base start r.full r.line (slice_index s.words 1) y z) (sym t.0) (record {
              spent = λ _. (refl, refl, refl, refl);
              unspent = λ p. absurd (omega arith);
              in_line = λ j a. absurd (gone' j a);
              only_in_line = λ m has. absurd has;
              first_in_line = λ bad. absurd bad;
              taken = tt;
            })))
            (λ (t : (k ≢ other) × (get_elem? mid k ≡ some u)). ⊎_elim
            (λ (q : (k ≡ id) × (b ≡ u)). subst (λ (y : View B E). Stands base start r.full r.line (slice_index s.words 1) k y) q.1
            (subst (λ (y : ℕ). Stands base start r.full r.line (slice_index s.words 1) y b) (sym q.0) (record {
              spent = λ none_left. absurd (omega arith);
              unspent = λ p. (
                one.0,
                one.1,
                longer_is (λ l. IsPrefix l r.full) v.seen w.seen one.2 two.2,
                shorter_is (λ l. IsPrefix l r.full) v.seen w.seen one.2 two.2,
              );
              in_line = λ j a. absurd (gone j a);
              only_in_line = λ m has. absurd (subst (HasTicket m) away has);
              first_in_line = λ bad. absurd (subst HasTurn away bad);
              taken = subst (TakenWith r.full b) (sym away) tt;
            })))
            (λ (q : (k ≢ id) × (get_elem? s.views k ≡ some u)). r.each k u q.1) (at_set s.views id k b u t.1))
            (at_set mid other k z u e);
        longest = let (k, u, e, p, q) = r.longest in dite (ℕ_discrete k id)
            (λ same. (
              id,
              b,
              here',
              omega arith,
              longer_full v.seen w.seen r.full one.2 two.2
                  (inl (ap (λ (y : View B E). y.seen) (some-injective v u (sym at ∙ subst (λ (x : ℕ). get_elem? s.views x ≡ some u) same e)) ∙ q)),
            ))
            (λ ne. dite (ℕ_discrete k other)
            (λ same. (
              id,
              b,
              here',
              omega arith,
              longer_full v.seen w.seen r.full one.2 two.2
                  (inr (ap (λ (y : View B E). y.seen) (some-injective w u (sym at' ∙ subst (λ (x : ℕ). get_elem? s.views x ≡ some u) same e)) ∙ q)),
            ))
            (λ ne'. (k, u, kept k u ne ne' e, p, q)));
        home = r.home;
        out = λ k u e serves. ⊎_elim
            (λ (t : (k ≡ other) × (z ≡ u)). absurd (subst (λ (y : View B E). HasTurn y.stage) (sym t.1) serves))
            (λ (t : (k ≢ other) × (get_elem? mid k ≡ some u)). ⊎_elim
            (λ (q : (k ≡ id) × (b ≡ u)). absurd (subst HasTurn away (subst (λ (y : View B E). HasTurn y.stage) (sym q.1) serves)))
            (λ (q : (k ≢ id) × (get_elem? s.views k ≡ some u)). r.out k u q.1 serves) (at_set s.views id k b u t.1))
            (at_set mid other k z u e);
        held = λ none_home. let (k, u, e, serves) = r.held none_home in (
          k,
          u,
          kept k u (λ same. subst HasTurn away (subst (λ (y : View B E). HasTurn y.stage) (sym (some-injective v u (sym at ∙ subst (λ (x : ℕ). get_elem? s.views x ≡ some u) same e))) serves))
              (λ same. subst HasTurn away' (subst (λ (y : View B E). HasTurn y.stage) (sym (some-injective w u (sym at' ∙ subst (λ (x : ℕ). get_elem? s.views x ≡ some u) same e))) serves)) e,
          serves,
        );
      }
