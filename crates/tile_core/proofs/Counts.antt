-- Counting what outputs carry, one after the other.
use Rattle.std.proofs.Common.{◌≡◌, ℕ, zero, suc, ◌+◌, ◌<◌, cond, List, [], ◌∷◌, get_or, length, slice_set, take, refl, sym, ap, ap₂, ◌∙◌, add-one, arith}
use Rattle.soc_base.specs.Port.{WordAndCredits}
use Rattle.tile_core.specs.Slot.{is_idle, counted}

-- a count after a flit
abbrev pub count_after : ℕ → WordAndCredits → ℕ
count_after count flit = cond (is_idle flit) count (count + 1)

-- the counts that are not yet changed
pub uncounted : (flits : List WordAndCredits) (counts : List ℕ) (i d : ℕ) → get_or (counted (take i flits) counts) i d ≡ get_or counts i d
uncounted flits counts zero d = refl
uncounted [] counts (suc i) d = refl
uncounted (flit ∷ flits) [] (suc i) d = refl
uncounted (flit ∷ flits) (count ∷ counts) (suc i) d = uncounted flits counts i d

-- one more is counted
pub counted_more : (flits : List WordAndCredits) (counts : List ℕ) (i : ℕ) (flit : WordAndCredits) → i < length flits → i < length counts → flit ≡ get_or flits i flit → counted (take (suc i) flits) counts ≡ slice_set (counted (take i flits) counts) i (count_after (get_or counts i 0) flit)
counted_more [] counts i flit few many is = absurd (omega arith)
counted_more (f ∷ flits) [] i flit few many is = absurd (omega arith)
counted_more (f ∷ flits) (c ∷ counts) zero flit few many is = ap (λ (f : WordAndCredits). count_after c f ∷ counts) (sym is)
counted_more (f ∷ flits) (c ∷ counts) (suc i) flit few many is = ap (λ (cs : List ℕ). count_after c f ∷ cs) (counted_more flits counts i flit (omega arith) (omega arith) is)

-- the same of the counts so far, in the code's loop
pub counted_step : (links : List WordAndCredits) (before now : List ℕ) (i result : ℕ) (flit : WordAndCredits) → i < length links → i < length before → now ≡ counted (take i links) before → flit ≡ get_or links i flit → result ≡ count_after (get_or now i 0) flit → slice_set now i result ≡ counted (take (i + 1) links) before
counted_step links before now i result flit few many so_far is counts =
    let read : get_or now i 0 ≡ get_or before i 0 = ap (λ (cs : List ℕ). get_or cs i 0) so_far ∙ uncounted links before i 0 in
    ap₂ (λ (cs : List ℕ) (count : ℕ). slice_set cs i count) so_far (counts ∙ ap (λ (count : ℕ). count_after count flit) read)
    ∙ sym (rw (add-one i) (counted_more links before i flit few many is))
