-- Lists that grow by what is listed next.
use Rattle.std.proofs.Common.{◌≡◌, ℕ, zero, suc, ◌+◌, Bool, true, false, cond, ◌==◌, List, [], ◌∷◌, ◌++◌, filter, map, refl, sym, ap, ◌∙◌, append_assoc, arith}
use Rattle.std.proofs.lemmas.List.{map-append}
use Rattle.std.specs.Int.{bit_at}
use Rattle.std.specs.List.{range_with_len}
use Rattle.soc_base.specs.Slots.{slots_of, slots_at}
use Rattle.bundle_model.specs.declared.resource.Resource.{Resource}
use Rattle.bundle_model.specs.declared.resource.Resource.TheVariants.{Partition}

-- the slots of a set below a number
abbrev pub slots_below : ℕ → ℕ → List ℕ
slots_below set limit = filter (λ slot. bit_at set slot == 1) (range_with_len 0 limit)

pub slots_of-below : (set : ℕ) → slots_of set ≡ slots_below set 16
unfolding slots_of
slots_of-below set = refl

joined : (here : Bool) (item : ℕ) (all some more : List ℕ) → all ≡ some ++ more → cond here (item ∷ all) all ≡ cond here (item ∷ some) some ++ more
joined true item all some more e = ap (λ l. item ∷ l) e
joined false item all some more e = e

range_more : (test : ℕ → Bool) (from count next : ℕ) → from + count ≡ next → filter test (range_with_len from (suc count)) ≡ filter test (range_with_len from count) ++ cond (test next) (next ∷ []) []
range_more test from zero next e =
    let same : from ≡ next = omega (arith, e) in
    ap (λ n. cond (test n) (n ∷ []) []) same
range_more test from (suc count) next e =
    let rest = range_more test (from + 1) count next (omega (arith, e)) in
    joined (test from) from (filter test (range_with_len (from + 1) (suc count))) (filter test (range_with_len (from + 1) count)) (cond (test next) (next ∷ []) []) rest

-- the slots below the next number are those below this one, and this one where it is set
pub slots_below-more : (set slot : ℕ) → slots_below set (slot + 1) ≡ slots_below set slot ++ slots_at set slot
slots_below-more set slot =
    let one : slot + 1 ≡ suc slot = omega arith in
    ap (slots_below set) one ∙ range_more (λ k. bit_at set k == 1) 0 slot slot (omega arith)

-- so are the resources that they are
pub partitions_more : (tile set slot : ℕ) (before list more : List Resource) → list ≡ before ++ map (Partition tile) (slots_below set slot) → more ≡ list ++ map (Partition tile) (slots_at set slot) → more ≡ before ++ map (Partition tile) (slots_below set (slot + 1))
partitions_more tile set slot before list more listed grown =
    let both : map (Partition tile) (slots_below set (slot + 1)) ≡ map (Partition tile) (slots_below set slot) ++ map (Partition tile) (slots_at set slot) =
    ap (map (Partition tile)) (slots_below-more set slot) ∙ map-append (Partition tile) (slots_below set slot) (slots_at set slot) in
    grown ∙ ap (λ l. l ++ map (Partition tile) (slots_at set slot)) listed
    ∙ append_assoc before (map (Partition tile) (slots_below set slot)) (map (Partition tile) (slots_at set slot))
    ∙ ap (λ l. before ++ l) (sym both)

-- all slots below 16 are the set's
pub partitions_all : (tile set slot : ℕ) (before list : List Resource) → slot ≡ 16 → list ≡ before ++ map (Partition tile) (slots_below set slot) → list ≡ before ++ map (Partition tile) (slots_of set)
partitions_all tile set slot before list all listed =
    let whole : slots_below set slot ≡ slots_of set = ap (slots_below set) all ∙ sym (slots_of-below set) in
    listed ∙ ap (λ slots. before ++ map (Partition tile) slots) whole
