-- The rule holds of a table that is new.
use Rattle.std.proofs.Common.{◌≡◌, ℕ, ◌<◌, ◌^◌, List, [], ◌∷◌, length, Some, refl, sym, subst, arith, ⊎_elim, lit<, append-nil}
use mathlib.Core.Option.{some, some-ne-none, some-injective}
use lib.ListN.{get_elem?}
use Rattle.atomic_table.specs.Table.{opening}
use Rattle.atomic_table.proofs.Lists.{at_snoc}
use Rattle.turn_lock.specs.Rule.{Ordered, Stands, first_view}
use Rattle.turn_lock.specs.declared.view.View.{View}

module _ {V B E : Type 0} (base_of : V → B) (entries_of : V → List E) (x : V) where
  first : View B E
  first = first_view (base_of x) (entries_of x)

  stands : (id : ℕ) → Stands (base_of x) (length (entries_of x)) (entries_of x) [] 0 id (first_view (base_of x) (entries_of x))
  stands id = record {
    spent = λ e. absurd (omega arith);
    unspent = λ _. (refl, refl, ([], append-nil (entries_of x)), ([], append-nil (entries_of x)));
    in_line = λ j e. absurd (some-ne-none id (sym e));
    only_in_line = λ t e. absurd e;
    first_in_line = λ e. absurd e;
    taken = tt;
  }

  pub opens : length (entries_of x) < 2 ^ 64
      → Ordered base_of entries_of (base_of x) (length (entries_of x)) (opening (0 ∷ 0 ∷ length (entries_of x) ∷ []) (Some x ∷ []) (first_view (base_of x) (entries_of x)))
  opens fits = record {
    full = entries_of x;
    line = [];
    three_words = refl;
    one_slot = refl;
    tickets = refl;
    count = refl;
    fits = fits;
    distinct = λ i j k a b. absurd (some-ne-none k (sym a));
    known = λ i k a. absurd (some-ne-none k (sym a));
    mine = omega arith;
    shares = refl;
    each = λ id v at. ⊎_elim (λ (e : get_elem? [] id ≡ some v). absurd (some-ne-none v (sym e)))
        (λ (e : first_view (base_of x) (entries_of x) ≡ v). subst (λ u. Stands (base_of x) (length (entries_of x)) (entries_of x) [] 0 id u) e (stands id))
        (at_snoc [] (first_view (base_of x) (entries_of x)) v id at);
    longest = (0, first_view (base_of x) (entries_of x), refl, lit< tt, refl);
    home = λ y e. subst (λ z. Rattle.turn_lock.specs.Rule.IsHome base_of entries_of (base_of x) (entries_of x) z) (some-injective _ _ (some-injective _ _ e)) (refl, refl);
    out = λ id v at serves. ⊎_elim (λ (e : get_elem? [] id ≡ some v). absurd (some-ne-none v (sym e)))
        (λ (e : first_view (base_of x) (entries_of x) ≡ v). absurd (subst (λ (u : View B E). Rattle.turn_lock.specs.Rule.HasTurn u.stage) (sym e) serves))
        (at_snoc [] (first_view (base_of x) (entries_of x)) v id at);
    held = λ e. absurd (some-ne-none _ (some-injective _ _ e));
  }
