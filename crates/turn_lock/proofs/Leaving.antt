-- Reading the count, counting an entry, and passing the turn keep the rule.
use Rattle.std.proofs.Common.{◌≡◌, ◌≢◌, ℕ, zero, suc, ◌+◌, ◌%◌, ◌<◌, ◌^◌, ◌⊎◌, List, [], ◌∷◌, ◌++◌, length, set, slice_index, Some, None, Option, true, false, refl, sym, ◌∙◌, subst, ap, arith, inl, inr, ⊎_elim, length-set, get_or-set_same, get_or-set_other, length-append, append_assoc, append-nil}
use Rattle.std.proofs.Math.Nat.{mod-add-mod, mod-eq_of_lt}
use mathlib.Core.Option.{some, none, some-ne-none, some-injective}
use mathlib.Core.Logic.{dite}
use mathlib.Core.List.{IsPrefix}
use native.Mathlib.Decide.{ℕ_discrete}
use lib.ListN.{get_elem?}
use Rattle.atomic_table.specs.Table.{State, Me, keeps, gives, Allows}
use Rattle.atomic_table.proofs.Lists.{at_set, set_here, set_else}
use Rattle.turn_lock.specs.Rule.{Ordered, Stands, HasTicket, HasTurn, TakenWith, IsHome}
use Rattle.turn_lock.specs.Steps.{Learnt, Counted, PassedOn}
use Rattle.turn_lock.specs.Hands.{HasTaken, CanCount, CanPassOn}
use Rattle.turn_lock.specs.declared.view.View.{View}
use Rattle.turn_lock.specs.declared.view.Stage.{Stage}
use Rattle.turn_lock.specs.declared.view.Stage.TheVariants.{Away, Waits, Holds}
use Rattle.turn_lock.proofs.Drawing.{at_bound, total_set}
use Rattle.turn_lock.proofs.Taking.{total_change, ticketed, set_kept}

abbrev tail : {A : Type 0} → List A → List A
tail [] = []
tail (x ∷ xs) = xs

tail_at : {A : Type 0} (l : List A) (j : ℕ) → get_elem? (tail l) j ≡ get_elem? l (suc j)
tail_at [] j = refl
tail_at (x ∷ xs) j = refl

tail_length : {A : Type 0} (l : List A) (a : A) → get_elem? l 0 ≡ some a → length (tail l) + 1 ≡ length l
tail_length [] a e = absurd (some-ne-none a (sym e))
tail_length (x ∷ xs) a e = omega arith

same_serves : {E : Type 0} (n m : ℕ) (es fs : List E) → Holds n es false ≡ Holds m fs false → (n ≡ m) × (es ≡ fs)
same_serves n m es fs e = (ap number e, ap list e)
  where
    number : {E : Type 0} → Stage E → ℕ
    number Away = 0
    number (Waits k) = k
    number (Holds k l b) = k

    list : {E : Type 0} → Stage E → List E
    list Away = []
    list (Waits k) = []
    list (Holds k l b) = l

prefix_more : {A : Type 0} (xs ys zs : List A) → IsPrefix xs ys → IsPrefix xs (ys ++ zs)
prefix_more xs ys zs p = (p.0 ++ zs, sym (append_assoc xs p.0 zs) ∙ ap (λ l. l ++ zs) p.1)

module _ {V B E : Type 0} (base_of : V → B) (entries_of : V → List E) (base : B) (start : ℕ) where
  abbrev Rule : State (Option V) (View B E) → Type 0
  Rule = Ordered base_of entries_of base start

  -- the one that serves
  module _ (s : State (Option V) (View B E)) (r : Rule s) (id : ℕ) (v : View B E) (n : ℕ) (es : List E) (known : Rattle.std.proofs.Common.Bool)
      (at : get_elem? s.views id ≡ some v) (stage : v.stage ≡ Holds n es known) where
    serving : HasTurn v.stage
    serving = subst HasTurn (sym stage) tt

    front : get_elem? r.line 0 ≡ some id
    front = (r.each id v at).first_in_line serving

    share : 0 < v.share
    share = let (u, at', p) = ticketed base_of entries_of base start s r 0 id front in subst (λ (x : View B E). 0 < x.share) (some-injective u v (sym at' ∙ at)) p

    -- no other view serves
    others : (k : ℕ) (u : View B E) → get_elem? s.views k ≡ some u → k ≢ id → ¬ (HasTurn u.stage)
    others k u e apart serves = apart (some-injective k id (sym ((r.each k u e).first_in_line serves) ∙ front))

    -- what a view of another keeps where the full list changes
    taken_else : (full : List E) (u : View B E) → ¬ (HasTurn u.stage) → TakenWith full u u.stage
    taken_else full u none_serves = go u.stage none_serves
      where
        go : (t : Stage E) → ¬ (HasTurn t) → TakenWith full u t
        go Away bad = tt
        go (Waits m) bad = tt
        go (Holds m fs b) bad = absurd (bad tt)

  -- the count is read: what changes is one view
  learns : (slots id : ℕ) (v : View B E) (c : List (ℕ × Option V)) (n : ℕ) (es : List E) → v.stage ≡ Holds n es false
      → Allows Rule slots id (v, c) 2 (λ k. k) (Learnt {S = Option V} (v, c))
  learns slots id v c n es stage s r sizes at small =
      let mine = r.each id v at in
      let es_is : es ≡ r.full = subst (TakenWith r.full v) stage mine.taken in
      let some_share = share s r id v n es false at stage in
      let known = mine.unspent some_share in
      let w : View B E = record v { seen = es; stage = Holds n es true } in
      let here : get_elem? (set s.views id w) id ≡ some w = set_here s.views id w (at_bound s.views id v at) in
      let words : set s.words 2 (slice_index s.words 2) ≡ s.words = set_kept s.words 2 in
      let serving_is : slice_index (set s.words 2 (slice_index s.words 2)) 1 ≡ slice_index s.words 1 = ap (λ (l : List ℕ). slice_index l 1) words in
      let stands : Stands base start r.full r.line (slice_index s.words 1) id w = record {
        spent = λ z. absurd (omega arith);
        unspent = λ p. (known.0, known.1, ([], append-nil es ∙ es_is), known.3);
        in_line = λ j a. subst (HasTicket ((slice_index s.words 1 + j) % 2 ^ 64)) stage (mine.in_line j a);
        only_in_line = λ t has. mine.only_in_line t (subst (HasTicket t) (sym stage) has);
        first_in_line = λ _. front s r id v n es false at stage;
        taken = (es_is, inl (sym es_is));
      } in (
        w,
        keeps,
        tt,
        record {
          full = r.full;
          line = r.line;
          three_words = length-set s.words 2 _ ∙ r.three_words;
          one_slot = r.one_slot;
          tickets = ap (λ (l : List ℕ). slice_index l 0) words ∙ r.tickets ∙ ap (λ (k : ℕ). (k + length r.line) % 2 ^ 64) (sym serving_is);
          count = ap (λ (l : List ℕ). slice_index l 2) words ∙ r.count;
          fits = r.fits;
          distinct = r.distinct;
          known = λ i k a. dite (ℕ_discrete k id) (λ e. (w, subst (λ (y : ℕ). get_elem? (set s.views id w) y ≡ some w) (sym e) here))
              (λ ne. let was = r.known i k a in (was.0, set_else s.views id k w ne ∙ was.1));
          mine = let same = total_set (λ u. u.mine) s.views id v w at refl in let old = r.mine in omega arith;
          shares = total_set (λ u. u.share) s.views id v w at refl ∙ r.shares;
          each = λ k u e. subst (λ (y : ℕ). Stands base start r.full r.line y k u) (sym serving_is) (⊎_elim
              (λ (t : (k ≡ id) × (w ≡ u)). subst (λ (y : View B E). Stands base start r.full r.line (slice_index s.words 1) k y) t.1
              (subst (λ (y : ℕ). Stands base start r.full r.line (slice_index s.words 1) y w) (sym t.0) stands))
              (λ (t : (k ≢ id) × (get_elem? s.views k ≡ some u)). r.each k u t.1)
              (at_set s.views id k w u e));
          longest = (id, w, here, some_share, es_is);
          home = r.home;
          out = λ k u e serves. r.out id v at (serving s r id v n es false at stage);
          held = λ _. (id, w, here, tt);
        },
        (λ m fs is.
            let both : (n ≡ m) × (es ≡ fs) = same_serves n m es fs (sym stage ∙ is) in
            (refl, r.count ∙ ap length (sym es_is ∙ both.1), ap (λ (l : List E). record v { seen = l; stage = Holds n l true }) both.1 ∙ ap (λ (k : ℕ). record v { seen = fs; stage = Holds k fs true }) both.0)),
      )

  -- an entry is counted: the full list is that of the value that is held
  adds : (slots id : ℕ) (v : View B E) (n : ℕ) (x : V) (e : E) → v.stage ≡ Holds n v.seen true → base_of x ≡ base → entries_of x ≡ v.seen ++ e ∷ []
      → length (entries_of x) < 2 ^ 64
      → Allows Rule slots id (v, (0, Some x) ∷ []) 2 (λ k. (k + 1) % 2 ^ 64) (Counted base_of entries_of (v, (0, Some x) ∷ []))
  adds slots id v n x e stage based more fits s r sizes at small =
      let mine = r.each id v at in
      let seen_is : v.seen ≡ r.full = (subst (TakenWith r.full v) stage mine.taken).0 in
      let full : List E = entries_of x in
      let full_is : full ≡ r.full ++ e ∷ [] = more ∙ ap (λ (l : List E). l ++ e ∷ []) seen_is in
      let longer : length full ≡ length r.full + 1 = ap length full_is ∙ length-append r.full (e ∷ []) in
      let some_share = share s r id v n v.seen true at stage in
      let known = mine.unspent some_share in
      let w : View B E = record v { seen = full; mine = v.mine + 1 } in
      let next : ℕ = (slice_index s.words 2 + 1) % 2 ^ 64 in
      let here : get_elem? (set s.views id w) id ≡ some w = set_here s.views id w (at_bound s.views id v at) in
      let serving_is : slice_index (set s.words 2 next) 1 ≡ slice_index s.words 1 = get_or-set_other s.words 2 1 next 0 (λ bad. omega arith) in
      let ticket_is : slice_index (set s.words 2 next) 0 ≡ slice_index s.words 0 = get_or-set_other s.words 2 0 next 0 (λ bad. omega arith) in
      let three_words = r.three_words in
      let counted : slice_index (set s.words 2 next) 2 ≡ next = get_or-set_same s.words 2 next 0 (omega arith) in
      let sum : slice_index s.words 2 + 1 ≡ length full = (let c = r.count in omega arith) in
      let exact : next ≡ length full = ap (λ (k : ℕ). k % 2 ^ 64) sum ∙ mod-eq_of_lt fits in
      let no_home : get_elem? s.homes 0 ≡ some none = r.out id v at (serving s r id v n v.seen true at stage) in
      let stands : Stands base start full r.line (slice_index s.words 1) id w = record {
        spent = λ z. absurd (omega arith);
        unspent = λ p. (known.0, known.1, ([], append-nil full), subst (λ (l : List E). IsPrefix v.met l) (sym full_is) (prefix_more v.met r.full (e ∷ []) known.3));
        in_line = λ j a. mine.in_line j a;
        only_in_line = λ t has. mine.only_in_line t has;
        first_in_line = λ _. front s r id v n v.seen true at stage;
        taken = subst (TakenWith full w) (sym stage) (refl, inr (e, more));
      } in (
        w,
        keeps,
        tt,
        record {
          full = full;
          line = r.line;
          three_words = length-set s.words 2 _ ∙ r.three_words;
          one_slot = r.one_slot;
          tickets = ticket_is ∙ r.tickets ∙ ap (λ (k : ℕ). (k + length r.line) % 2 ^ 64) (sym serving_is);
          count = counted ∙ exact;
          fits = fits;
          distinct = r.distinct;
          known = λ i k a. dite (ℕ_discrete k id) (λ same. (w, subst (λ (y : ℕ). get_elem? (set s.views id w) y ≡ some w) (sym same) here))
              (λ ne. let was = r.known i k a in (was.0, set_else s.views id k w ne ∙ was.1));
          mine = let change = total_change (λ u. u.mine) s.views id v w at in let old = r.mine in omega arith;
          shares = total_set (λ u. u.share) s.views id v w at refl ∙ r.shares;
          each = λ k u a. subst (λ (y : ℕ). Stands base start full r.line y k u) (sym serving_is) (⊎_elim
              (λ (t : (k ≡ id) × (w ≡ u)). subst (λ (y : View B E). Stands base start full r.line (slice_index s.words 1) k y) t.1
              (subst (λ (y : ℕ). Stands base start full r.line (slice_index s.words 1) y w) (sym t.0) stands))
              (λ (t : (k ≢ id) × (get_elem? s.views k ≡ some u)). let h = r.each k u t.1 in record {
                spent = h.spent;
                unspent = λ p. let q = h.unspent p in (q.0, q.1, subst (λ (l : List E). IsPrefix u.seen l) (sym full_is) (prefix_more u.seen r.full (e ∷ []) q.2), subst (λ (l : List E). IsPrefix u.met l) (sym full_is) (prefix_more u.met r.full (e ∷ []) q.3));
                in_line = h.in_line;
                only_in_line = h.only_in_line;
                first_in_line = h.first_in_line;
                taken = taken_else s r id v n v.seen true at stage full u (others s r id v n v.seen true at stage k u t.1 t.0);
              })
              (at_set s.views id k w u a));
          longest = (id, w, here, some_share, refl);
          home = λ y a. absurd (some-ne-none y (sym (some-injective _ _ (sym no_home ∙ a))));
          out = λ k u a serves. no_home;
          held = λ _. (id, w, here, serving s r id v n v.seen true at stage);
        },
        (λ y is. (refl, ap (λ (l : List E). record v { seen = l; mine = v.mine + 1 }) (same_held x y is))),
      )
    where
      same_held : (a b : V) → ◌≡◌ {A = List (ℕ × Option V)} ((0, Some a) ∷ []) ((0, Some b) ∷ []) → entries_of a ≡ entries_of b
      same_held a b is = ap (entries_or []) (ap head is)
        where
          head : List (ℕ × Option V) → Option V
          head [] = None
          head (p ∷ ps) = p.1

          entries_or : List E → Option V → List E
          entries_or other None = other
          entries_or other (Some z) = entries_of z

  -- the value is given back, and the turn PassedOn
  passes : (slots id : ℕ) (v : View B E) (n : ℕ) (es : List E) (x : V) → v.stage ≡ Holds n es true → base_of x ≡ base → entries_of x ≡ v.seen
      → Allows Rule slots id (v, (0, Some x) ∷ []) 1 (λ k. (k + 1) % 2 ^ 64) (PassedOn {S = Option V} (v, (0, Some x) ∷ []))
  passes slots id v n es x stage based same s r sizes at small =
      let mine = r.each id v at in
      let seen_is : v.seen ≡ r.full = (subst (TakenWith r.full v) stage mine.taken).0 in
      let some_share = share s r id v n es true at stage in
      let first = front s r id v n es true at stage in
      let known = mine.unspent some_share in
      let w : View B E = record v { stage = Away } in
      let now : ℕ = slice_index s.words 1 in
      let next : ℕ = (now + 1) % 2 ^ 64 in
      let three_words = r.three_words in
      let here : get_elem? (set s.views id w) id ≡ some w = set_here s.views id w (at_bound s.views id v at) in
      let serving_is : slice_index (set s.words 1 next) 1 ≡ next = get_or-set_same s.words 1 next 0 (omega arith) in
      let ticket_is : slice_index (set s.words 1 next) 0 ≡ slice_index s.words 0 = get_or-set_other s.words 1 0 next 0 (λ bad. omega arith) in
      let shorter = tail_length r.line id first in
      let homes : get_elem? (set s.homes 0 (some (Some x))) 0 ≡ some (some (Some x)) = set_here s.homes 0 (some (Some x)) (let z = r.one_slot in omega arith) in
      let place : (j : ℕ) → (next + j) % 2 ^ 64 ≡ (now + suc j) % 2 ^ 64 = λ j. mod-add-mod (now + 1) (2 ^ 64) j ∙ ap (λ (k : ℕ). k % 2 ^ 64) (omega arith) in
      let gone : (j : ℕ) → ¬ (get_elem? (tail r.line) j ≡ some id) = λ j a. let z = r.distinct (suc j) 0 id (sym (tail_at r.line j) ∙ a) first in absurd (omega arith) in (
        w,
        gives,
        tt,
        record {
          full = r.full;
          line = tail r.line;
          three_words = length-set s.words 1 _ ∙ r.three_words;
          one_slot = length-set s.homes 0 _ ∙ r.one_slot;
          tickets = ticket_is ∙ r.tickets ∙ ap (λ (k : ℕ). (now + k) % 2 ^ 64) (let z = shorter in omega arith) ∙ sym (place (length (tail r.line)))
              ∙ ap (λ (k : ℕ). (k + length (tail r.line)) % 2 ^ 64) (sym serving_is);
          count = get_or-set_other s.words 1 2 next 0 (λ bad. omega arith) ∙ r.count;
          fits = r.fits;
          distinct = λ i j k a b. let z = r.distinct (suc i) (suc j) k (sym (tail_at r.line i) ∙ a) (sym (tail_at r.line j) ∙ b) in omega arith;
          known = λ i k a. dite (ℕ_discrete k id) (λ e. absurd (gone i (a ∙ ap some e)))
              (λ ne. let was = r.known (suc i) k (sym (tail_at r.line i) ∙ a) in (was.0, set_else s.views id k w ne ∙ was.1));
          mine = let old = r.mine in let z = total_set (λ u. u.mine) s.views id v w at refl in omega arith;
          shares = total_set (λ u. u.share) s.views id v w at refl ∙ r.shares;
          each = λ k u a. subst (λ (y : ℕ). Stands base start r.full (tail r.line) y k u) (sym serving_is) (⊎_elim
              (λ (t : (k ≡ id) × (w ≡ u)). subst (λ (y : View B E). Stands base start r.full (tail r.line) next k y) t.1
              (subst (λ (y : ℕ). Stands base start r.full (tail r.line) next y w) (sym t.0) (record {
                spent = λ z. absurd (omega arith);
                unspent = λ p. known;
                in_line = λ j b. absurd (gone j b);
                only_in_line = λ m has. absurd has;
                first_in_line = λ bad. absurd bad;
                taken = tt;
              })))
              (λ (t : (k ≢ id) × (get_elem? s.views k ≡ some u)). let h = r.each k u t.1 in record {
                spent = h.spent;
                unspent = h.unspent;
                in_line = λ j b. subst (λ (m : ℕ). HasTicket m u.stage) (sym (place j)) (h.in_line (suc j) (sym (tail_at r.line j) ∙ b));
                only_in_line = λ m has. later k u t.0 (h.only_in_line m has);
                first_in_line = λ bad. absurd (others s r id v n es true at stage k u t.1 t.0 bad);
                taken = h.taken;
              })
              (at_set s.views id k w u a));
          longest = let (k, u, a, p, l) = r.longest in (id, w, here, some_share, seen_is);
          home = λ y a. subst (IsHome base_of entries_of base r.full) (some-injective _ _ (some-injective _ _ (sym homes ∙ a))) (based, same ∙ seen_is);
          out = λ k u a serves. absurd (⊎_elim (λ (t : (k ≡ id) × (w ≡ u)). subst (λ (y : View B E). HasTurn y.stage) (sym t.1) serves)
              (λ (t : (k ≢ id) × (get_elem? s.views k ≡ some u)). others s r id v n es true at stage k u t.1 t.0 serves) (at_set s.views id k w u a));
          held = λ none_home. absurd (some-ne-none (Some x) (some-injective _ _ (sym homes ∙ none_home)));
        },
        (refl, refl),
      )
    where
      later : (k : ℕ) (u : View B E) → k ≢ id → (j : ℕ) × (get_elem? r.line j ≡ some k) → (j : ℕ) × (get_elem? (tail r.line) j ≡ some k)
      later k u apart (zero, a) = absurd (apart (some-injective k id (sym a ∙ front s r id v n es true at stage)))
      later k u apart (suc j, a) = (j, tail_at r.line j ∙ a)

  pub learns_at : (slots id : ℕ) (me : Me (Option V) (View B E)) → HasTaken me → Allows Rule slots id me 2 (λ k. k) (Learnt {S = Option V} me)
  learns_at slots id me (n, es, stage) = learns slots id me.0 me.1 n es stage

  pub adds_at : (slots id : ℕ) (me : Me (Option V) (View B E)) → CanCount base_of entries_of base me → Allows Rule slots id me 2 (λ k. (k + 1) % 2 ^ 64) (Counted base_of entries_of me)
  adds_at slots id me (x, e, held, (n, stage), based, more, fits) =
      subst (λ (c : List (ℕ × Option V)). Allows Rule slots id (me.0, c) 2 (λ k. (k + 1) % 2 ^ 64) (Counted base_of entries_of (me.0, c))) (sym held)
      (adds slots id me.0 n x e stage based more fits)

  pub passes_at : (slots id : ℕ) (me : Me (Option V) (View B E)) → CanPassOn base_of entries_of base me → Allows Rule slots id me 1 (λ k. (k + 1) % 2 ^ 64) (PassedOn {S = Option V} me)
  passes_at slots id me (n, es, x, held, stage, based, same) =
      subst (λ (c : List (ℕ × Option V)). Allows Rule slots id (me.0, c) 1 (λ k. (k + 1) % 2 ^ 64) (PassedOn {S = Option V} (me.0, c))) (sym held)
      (passes slots id me.0 n es x stage based same)
