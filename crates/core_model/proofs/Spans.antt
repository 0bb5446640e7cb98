-- The flits of a link from the slot of its reader on to that of its writer.
use Rattle.std.proofs.Common.{◌≡◌, ℕ, suc, ◌+◌, ◌-◌, ◌≤◌, Bool, true, false, cond, List, [], ◌∷◌, ◌++◌, map, drop, refl, sym, ap, ap₂, ◌∙◌, arith, append-nil}
use Rattle.std.specs.List.{range_with_len}
use Rattle.std.proofs.lemmas.List.FromFn.{map-range_with_len_more}

-- the flits of a link from the slot of its reader on to that of its writer
abbrev pub span : {X : Type 0} → (ℕ → X) → ℕ → ℕ → List X
span f reader writer = map f (range_with_len reader (writer + 1 - reader))

span_more : {X : Type 0} (f : ℕ → X) (reader writer : ℕ) → reader ≤ writer + 1 → span f reader writer ++ f (writer + 1) ∷ [] ≡ span f reader (writer + 1)
span_more f reader writer low =
    let count : writer + 1 - reader + 1 ≡ writer + 1 + 1 - reader = omega arith in
    sym (map-range_with_len_more f reader (writer + 1 - reader) (writer + 1) (omega arith)) ∙ ap (λ n. map f (range_with_len reader n)) count

span_rest : {X : Type 0} (f : ℕ → X) (reader writer : ℕ) → reader ≤ writer → drop 1 (span f reader writer) ≡ span f (reader + 1) writer
span_rest f reader writer low =
    let count : writer + 1 - reader ≡ suc (writer + 1 - (reader + 1)) = omega arith in
    ap (λ n. drop 1 (map f (range_with_len reader n))) count

-- a line after a slot, whether its reader or its writer took it, or both
pub span_after : {X : Type 0} (f : ℕ → X) (reader writer : ℕ) (reads writes : Bool) (flits : List X) (flit : X) → reader ≤ writer + 1 → (reads ≡ true → reader ≤ writer) → flits ≡ span f reader writer → (writes ≡ true → flit ≡ f (writer + 1)) → (cond reads (drop 1 flits) flits) ++ (cond writes (flit ∷ []) []) ≡ span f (reader + cond reads 1 0) (writer + cond writes 1 0)
span_after f reader writer true true flits flit low there holds is =
    let before = there refl in
    ap₂ (λ xs x. drop 1 xs ++ x ∷ []) holds (is refl)
    ∙ ap (λ xs. xs ++ f (writer + 1) ∷ []) (span_rest f reader writer before)
    ∙ span_more f (reader + 1) writer (omega arith)
span_after f reader writer true false flits flit low there holds is =
    let same : writer + 0 ≡ writer = omega arith in
    append-nil (drop 1 flits) ∙ ap (drop 1) holds ∙ span_rest f reader writer (there refl) ∙ ap (span f (reader + 1)) (sym same)
span_after f reader writer false true flits flit low there holds is =
    let same : reader + 0 ≡ reader = omega arith in
    ap₂ (λ xs x. xs ++ x ∷ []) holds (is refl) ∙ span_more f reader writer low ∙ ap (λ n. span f n (writer + 1)) (sym same)
span_after f reader writer false false flits flit low there holds is =
    let same : reader + 0 ≡ reader = omega arith in
    let also : writer + 0 ≡ writer = omega arith in
    append-nil flits ∙ holds ∙ ap₂ (span f) (sym same) (sym also)

pub spaced_after : (reader writer : ℕ) (reads writes : Bool) → reader ≤ writer + 1 → (reads ≡ true → reader ≤ writer) → reader + cond reads 1 0 ≤ writer + cond writes 1 0 + 1
spaced_after reader writer true true low there = let before = there refl in omega arith
spaced_after reader writer true false low there = let before = there refl in omega arith
spaced_after reader writer false true low there = omega arith
spaced_after reader writer false false low there = omega arith
