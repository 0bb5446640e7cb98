-- Two lists that were seen are beginnings of one list, and so the shorter is a beginning of the longer.
use Rattle.std.proofs.Common.{◌≡◌, ℕ, ◌<◌, ◌≤◌, List, [], ◌∷◌, ◌++◌, length, Option, Bool, true, false, nat_le, refl, sym, ◌∙◌, subst, ap, arith, append-nil}
use Rattle.std.specs.Bool.{if◌then◌else◌}
use Rattle.std.proofs.lemmas.Bool.Decides.{nat_tests}
use mathlib.Core.List.{IsPrefix}
use Rattle.atomic_table.specs.Table.{Me, keeps, Allows}
use Rattle.turn_lock.specs.Seen.{longer}
use Rattle.turn_lock.specs.Rule.{Ordered}
use Rattle.turn_lock.specs.Steps.{shorter, Compared}
use Rattle.turn_lock.specs.declared.view.View.{View}
use Rattle.turn_lock.proofs.Taking.{same_state}

heads : {E : Type 0} (x y : E) (xs ys : List E) → x ∷ xs ≡ y ∷ ys → x ≡ y
heads {E} x y xs ys e = ap first e
  where
    first : List E → E
    first [] = x
    first (z ∷ zs) = z

tails : {E : Type 0} (x y : E) (xs ys : List E) → x ∷ xs ≡ y ∷ ys → xs ≡ ys
tails {E} x y xs ys e = ap rest e
  where
    rest : List E → List E
    rest [] = []
    rest (z ∷ zs) = zs

-- of two beginnings of one list the one that is not longer is a beginning of the other
prefix_of : {E : Type 0} (xs ys full : List E) → IsPrefix xs full → IsPrefix ys full → length xs ≤ length ys → IsPrefix xs ys
prefix_of [] ys full p q le = (ys, refl)
prefix_of (x ∷ xs) [] full p q le = absurd (omega arith)
prefix_of (x ∷ xs) (y ∷ ys) full p q le =
    let both : x ∷ (xs ++ p.0) ≡ y ∷ (ys ++ q.0) = p.1 ∙ sym q.1 in
    let one = prefix_of xs ys (ys ++ q.0) (p.0, tails x y (xs ++ p.0) (ys ++ q.0) both) (q.0, refl) (omega arith) in
    (one.0, ap (λ l. x ∷ l) one.1 ∙ ap (λ z. z ∷ ys) (heads x y (xs ++ p.0) (ys ++ q.0) both))

-- both lists are beginnings of the longer one
pub both_begin : {E : Type 0} (xs ys : List E) → (length (shorter xs ys) ≤ length (longer xs ys) → IsPrefix (shorter xs ys) (longer xs ys))
    → IsPrefix xs (longer xs ys) × IsPrefix ys (longer xs ys)
both_begin {E} xs ys h = go (nat_le (length xs) (length ys)) refl h
  where
    go : (b : Bool) → nat_le (length xs) (length ys) ≡ b → (length (if b then xs else ys) ≤ length (if b then ys else xs) → IsPrefix (if b then xs else ys) (if b then ys else xs))
        → IsPrefix xs (if b then ys else xs) × IsPrefix ys (if b then ys else xs)
    go true is begins = let le : length xs ≤ length ys = grind (arith, nat_tests) in (begins le, ([], append-nil ys))
    go false is begins = let lt : length ys < length xs = grind (arith, nat_tests) in (([], append-nil xs), begins (omega arith))

module _ {V B E : Type 0} (base_of : V → B) (entries_of : V → List E) (base : B) (start : ℕ) where
  pub compares : (slots id : ℕ) (me : Me (Option V) (View B E)) → 0 < me.0.share
      → Allows (Ordered base_of entries_of base start) slots id me 1 (λ k. k) (Compared {S = Option V} me)
  compares slots id me some_share s r sizes at small =
      let known = (r.each id me.0 at).unspent some_share in (
        me.0,
        keeps,
        tt,
        subst (Ordered base_of entries_of base start) (same_state base_of entries_of base start id me.0 s at) r,
        (refl, λ le. prefix_of me.0.met me.0.seen r.full known.3 known.2 le),
      )
