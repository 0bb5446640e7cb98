-- The rows of one part more.
use Rattle.std.proofs.Common.{◌≡◌, ℕ, ◌+◌, ◌<◌, List, [], ◌++◌, length, take, get_or, ap, sym, ◌∙◌}
use Rattle.std.specs.List.{flat_map}
use Rattle.std.specs.List.Sorted.{IsPermutation}
use Rattle.std.proofs.lemmas.List.{flat_map_more, take_more}
use Rattle.std.proofs.lemmas.List.Sorted.{IsPermutation-append_left, IsPermutation-trans}

-- where `old` has the rows of the first parts in another order, and `new` those of one part more
pub merged_more : {X Y : Type 0} (f : X → List Y) (xs : List X) (i : ℕ) (x : X) (old new : List Y) → i < length xs
    → x ≡ get_or xs i x → IsPermutation (flat_map f (take i xs)) old → IsPermutation (old ++ f x) new
    → IsPermutation (flat_map f (take (i + 1) xs)) new
merged_more f xs i x old new inside is before after =
    let whole : flat_map f (take (i + 1) xs) ≡ flat_map f (take i xs) ++ f x = ap (flat_map f) (take_more xs i x inside) ∙ sym (flat_map_more f [] (take i xs) (get_or xs i x)) ∙ ap (λ y. flat_map f (take i xs) ++ f y) (sym is) in
    rw whole (IsPermutation-trans _ _ _ (IsPermutation-append_left (f x) (flat_map f (take i xs)) old before) after)
