-- A loop that writes over each item of a list, by a step that isn't a function of the item.
use Rattle.std.proofs.Common.{◌≡◌, ℕ, ◌+◌, ◌<◌, List, [], ◌∷◌, map, take, drop, set, get_or, length, length-set, get_or-set_other, inl, inr, refl, sym, ap, subst, ◌∙◌, arith}
use Rattle.std.proofs.lemmas.Bool.{cases_eq}
use Rattle.std.proofs.lemmas.Option.{slice_get_within, slice_get_read, get_or_from_slice_get}
use Rattle.std.proofs.lemmas.List.{drop_more, drop-set-lt}
use Rattle.std.proofs.lemmas.Grind.{drop_more_same, get_or-set_at, common_steps}
use Rattle.tile_core.specs.inner.Calls.{AreRelated}

-- the items that are still to be written are as before
pub rest_more : {X : Type 0} (xs ys : List X) (i : ℕ) (y : X) → drop i ys ≡ drop i xs → drop (i + 1) (set ys i y) ≡ drop (i + 1) xs
rest_more xs ys i y rest = drop-set-lt (i + 1) ys i y (omega arith) ∙ drop_more_same ys xs i rest

-- the next item is the list's own
pub next_same : {X : Type 0} (xs ys : List X) (i : ℕ) (d : X) → i < length ys → length ys ≡ length xs → drop i ys ≡ drop i xs → get_or ys i d ≡ get_or xs i d
next_same xs ys i d inside same rest =
    let both : get_or ys i d ∷ drop (i + 1) ys ≡ get_or xs i d ∷ drop (i + 1) xs = sym (drop_more ys i d inside) ∙ rest ∙ drop_more xs i d (omega (arith, inside, same)) in
    ap (λ zs. get_or zs 0 d) both

-- what is seen of the items that were written
pub seen_more : {X S : Type 0} (f g : X → S) (xs ys : List X) (i : ℕ) (y d : X) → i < length ys → length ys ≡ length xs → map f (take i ys) ≡ map g (take i xs) → f y ≡ g (get_or xs i d) → map f (take (i + 1) (set ys i y)) ≡ map g (take (i + 1) xs)
seen_more f g xs ys i y d inside same so_far is = grind (arith, common_steps)

-- what is seen of all items, once each was written
pub all_seen : {X S : Type 0} (f g : X → S) (xs ys : List X) (i : ℕ) → i ≡ length ys → length ys ≡ length xs → map f (take i ys) ≡ map g (take i xs) → map f ys ≡ map g xs
all_seen f g xs ys i end same so_far = grind (arith, common_steps)

-- the images of images
pub map_map : {X Y Z : Type 0} (g : Y → Z) (f : X → Y) (xs : List X) → map (λ x. g (f x)) xs ≡ map g (map f xs)
map_map g f [] = refl
map_map g f (x ∷ xs) = ap (λ zs. g (f x) ∷ zs) (map_map g f xs)

-- the next item is written by one to which it is related
pub related_more : {X : Type 0} (R : X → X → Type 0) (xs ys : List X) (i : ℕ) (y d : X) → i < length ys → length ys ≡ length xs → drop i ys ≡ drop i xs → R (get_or ys i d) y → AreRelated R xs ys → AreRelated R xs (set ys i y)
related_more {X} R xs ys i y d inside same rest step so_far place before after at there = elim (cases_eq place i) [
  | inl is ↦
      let first : get_or xs i d ≡ before = sym (ap (λ k. get_or xs k d) is) ∙ get_or_from_slice_get xs place before d at in
      let last : y ≡ after = sym (get_or-set_at ys i place y d is inside) ∙ get_or_from_slice_get (set ys i y) place after d there in
      subst (λ b. R b after) (next_same xs ys i d inside same rest ∙ first) (subst (R (get_or ys i d)) last step)
  | inr other ↦
      let low : place < length ys = omega (arith, slice_get_within (set ys i y) place after there, length-set ys i y) in
      let old : get_or ys place after ≡ after = sym (get_or-set_other ys i place y after other) ∙ get_or_from_slice_get (set ys i y) place after after there in
      so_far place before after at (slice_get_read ys (length ys) place after refl low (sym old))
]
