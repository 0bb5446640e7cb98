-- Every list of rows can be put in order.
use Rattle.std.proofs.Common.{◌≡◌, ℕ, zero, suc, ◌+◌, Bool, true, false, List, [], ◌∷◌, get_or, subst, refl, rules, arith}
use Rattle.std.specs.Cmp.{IsTotalOrder}
use Rattle.std.specs.Cmp.Rules.{comparing}
use Rattle.std.specs.Ordering.{is_lt, ordering_reverse}
use Rattle.std.specs.declared.cmp.Ordering.{Ordering}
use Rattle.std.specs.declared.cmp.Ordering.TheVariants.{Less, Equal, Greater}
use Rattle.std.specs.List.Sorted.{IsSorted, IsSortedBy, IsPermutation}
use Rattle.std.proofs.lemmas.List.Sorted.{IsPermutation-refl, IsPermutation-trans, IsPermutation-cons, IsPermutation-middle}
use Rattle.trace_log.specs.declared.row.TraceRow.{TraceRow}
use Rattle.trace_log.specs.Rows.{row_cmp}

-- the first of a list isn't less than an element
abbrev IsAbove : {X : Type 0} → (X → X → Bool) → X → List X → Type 0
IsAbove less x [] = Unit {0}
IsAbove less x (y ∷ ys) = less y x ≡ false

sorted_more : {X : Type 0} (less : X → X → Bool) (x : X) (ys : List X) → IsAbove less x ys → IsSortedBy less ys
    → IsSortedBy less (x ∷ ys)
sorted_more less x [] above sorted k d low inside = absurd (omega arith)
sorted_more less x (y ∷ ys) above sorted zero d low inside = above
sorted_more {X} less x (y ∷ ys) above sorted (suc k) d low inside =
    let more : suc (k + 1) ≡ suc k + 1 = omega arith in
    subst (λ (n : ℕ). less (get_or (x ∷ y ∷ ys) n d) (get_or (y ∷ ys) k d) ≡ false) more
    (sorted k d (omega arith) (omega arith))

sorted_above : {X : Type 0} (less : X → X → Bool) (x : X) (ys : List X) → IsSortedBy less (x ∷ ys) → IsAbove less x ys
sorted_above less x [] sorted = tt
sorted_above less x (y ∷ ys) sorted = sorted 0 y (omega arith) (omega arith)

sorted_rest : {X : Type 0} (less : X → X → Bool) (x : X) (ys : List X) → IsSortedBy less (x ∷ ys) → IsSortedBy less ys
sorted_rest {X} less x ys sorted k d low inside =
    let more : suc k + 1 ≡ suc (k + 1) = omega arith in
    subst (λ (n : ℕ). less (get_or (x ∷ ys) n d) (get_or ys k d) ≡ false) more
    (sorted (suc k) d (omega arith) (omega arith))

-- a list in order, with one element more
record Placed {X : Type 0} (less : X → X → Bool) (x : X) (ys : List X) : Type 0 where
  zs : List X
  moved : IsPermutation (x ∷ ys) zs
  sorted : IsSortedBy less zs
  above : (u : X) → less x u ≡ false → IsAbove less u ys → IsAbove less u zs

placed_by : {X : Type 0} (less : X → X → Bool) → ((x y : X) → less x y ≡ true → less y x ≡ false)
    → (x y : X) (ys : List X) (b : Bool) → less y x ≡ b → IsSortedBy less (y ∷ ys) → Placed less x ys
    → Placed less x (y ∷ ys)
placed_by less asym x y ys true is sorted rest = record {
  zs = y ∷ rest.zs;
  moved = IsPermutation-trans _ _ _ (IsPermutation-middle (x ∷ []) y ys)
      (IsPermutation-cons y (x ∷ ys) rest.zs rest.moved);
  sorted = sorted_more less y rest.zs (rest.above y (asym y x is) (sorted_above less y ys sorted)) rest.sorted;
  above = λ u mine its. its;
}
placed_by less asym x y ys false is sorted rest = record {
  zs = x ∷ y ∷ ys;
  moved = IsPermutation-refl (x ∷ y ∷ ys);
  sorted = sorted_more less x (y ∷ ys) is sorted;
  above = λ u mine its. mine;
}

placed : {X : Type 0} (less : X → X → Bool) → ((x y : X) → less x y ≡ true → less y x ≡ false)
    → (x : X) (ys : List X) → IsSortedBy less ys → Placed less x ys
placed less asym x [] sorted = record {
  zs = x ∷ [];
  moved = IsPermutation-refl (x ∷ []);
  sorted = sorted_more less x [] tt sorted;
  above = λ u mine its. mine;
}
placed less asym x (y ∷ ys) sorted =
    placed_by less asym x y ys (less y x) refl sorted (placed less asym x ys (sorted_rest less y ys sorted))

-- the elements of a list, in order
record InOrder {X : Type 0} (less : X → X → Bool) (xs : List X) : Type 0 where
  ys : List X
  moved : IsPermutation xs ys
  sorted : IsSortedBy less ys

in_order : {X : Type 0} (less : X → X → Bool) → ((x y : X) → less x y ≡ true → less y x ≡ false)
    → (xs : List X) → InOrder less xs
in_order less asym [] = record { ys = []; moved = IsPermutation-refl []; sorted = λ k d low inside. absurd (omega arith) }
in_order less asym (x ∷ xs) =
    let rest = in_order less asym xs in
    let all = placed less asym x rest.ys rest.sorted in
    record {
      ys = all.zs;
      moved = IsPermutation-trans _ _ _ (IsPermutation-cons x xs rest.ys rest.moved) all.moved;
      sorted = all.sorted;
    }

row_total : IsTotalOrder row_cmp
row_total = search (comparing, rules) depth 9

less_one_way : (one other : Ordering) → one ≡ ordering_reverse other → is_lt one ≡ true → is_lt other ≡ false
less_one_way one Less is less = cc
less_one_way one Equal is less = refl
less_one_way one Greater is less = refl

pub rows_in_order : (rows : List TraceRow)
    → (kept : List TraceRow) × IsPermutation rows kept × IsSorted row_cmp kept
rows_in_order rows =
    let o = in_order (λ one other. is_lt (row_cmp one other)) (λ one other less.
    less_one_way (row_cmp one other) (row_cmp other one) (row_total.antisymm one other) less) rows in
    (o.ys, o.moved, o.sorted)
