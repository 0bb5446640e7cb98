-- How many rows the parts of a bundle keep.
use Rattle.std.proofs.Common.{◌≡◌, ℕ, ◌+◌, ◌<◌, ◌≤◌, ◌^◌, Bool, ◌||◌, true, nat_eq, List, [], ◌∷◌, length, map, take, get_or, sum_by, All, ap, ◌∙◌, arith}
use Rattle.std.specs.List.{list_any, flat_map}
use Rattle.std.specs.List.Sorted.{IsPermutation}
use Rattle.std.proofs.lemmas.Bool.{false≢true}
use Rattle.std.proofs.lemmas.List.{length-map}
use Rattle.std.proofs.lemmas.List.Elements.{All-head, All-tail, All-weaker, All-map}
use Rattle.std.proofs.lemmas.List.Concat.{length-flat_map}
use Rattle.std.proofs.lemmas.List.Sorted.{length_permutation}
use Rattle.std.proofs.lemmas.List.Sums.{sum_by-le, sum_by_more_le}
use Rattle.std.proofs.lemmas.Map.Steps.{length-le_from_distinct_below}
use Rattle.soc_base.specs.declared.limits.TheConstants.{MOST_ROWS}
use Rattle.platform_model.specs.declared.platform.Platform.{Platform}
use Rattle.bundle_model.specs.declared.bundle.Bundle.{Bundle}
use Rattle.bundle_model.specs.WellFormed.{IsWellFormedPart, IsWellFormed}

equal_or_later : (q x n : ℕ) (later : Bool) → x < n → (later ≡ true → q < n) → nat_eq q x || later ≡ true → q < n
equal_or_later q x n later below rest found = grind arith

below_all : (xs : List ℕ) (n q : ℕ) → All (λ x. x < n) xs → list_any (nat_eq q) xs ≡ true → q < n
below_all [] n q all found = absurd (false≢true found)
below_all (x ∷ xs) n q all found =
    equal_or_later q x n (list_any (nat_eq q) xs) (All-head (λ y. y < n) x xs all)
    (below_all xs n q (All-tail (λ y. y < n) x xs all)) found

-- a bundle has at most a part on each tile
pub few_parts : (platform : Platform) (bundle : Bundle) → IsWellFormed platform bundle
    → length bundle.parts ≤ platform.tiles
few_parts platform bundle fine =
    let tiles : List ℕ = map (λ part. part.tile) bundle.parts in
    let on_tiles : All (λ tile. tile < platform.tiles) tiles =
    All-map (λ tile. tile < platform.tiles) (λ part. part.tile) bundle.parts
    (All-weaker (IsWellFormedPart platform) (λ part. part.tile < platform.tiles) (λ part is. is.on_tile)
    bundle.parts fine.parts) in
    let few : length tiles ≤ platform.tiles =
    length-le_from_distinct_below tiles platform.tiles fine.apart
    (λ q. below_all tiles platform.tiles q on_tiles) in
    omega (arith, few, length-map bundle.parts (λ part. part.tile))

pub few_rows : (platform : Platform) (bundle : Bundle) → IsWellFormed platform bundle
    → sum_by (λ part. part.trace) bundle.parts < 2 ^ 64
few_rows platform bundle fine =
    let traces = sum_by-le (λ part. part.trace) MOST_ROWS bundle.parts
    (All-weaker (IsWellFormedPart platform) (λ part. part.trace ≤ 4096) (λ part is. is.trace_fits) bundle.parts
    fine.parts) in
    omega (arith, traces, few_parts platform bundle fine, platform.tiles_in_range.1)

-- where `old` has the items of the first lists in another order, there is room for those of one list more
pub room_for_more : {X Y : Type 0} (f : X → List Y) (xs : List X) (i : ℕ) (x : X) (old : List Y) → i < length xs
    → x ≡ get_or xs i x → IsPermutation (flat_map f (take i xs)) old
    → length old + length (f x) ≤ length (flat_map f xs)
room_for_more f xs i x old inside is before =
    let size : length old ≡ sum_by (λ y. length (f y)) (take i xs) =
    length_permutation _ _ before ∙ length-flat_map f (take i xs) in
    let step : sum_by (λ y. length (f y)) (take i xs) + length (f (get_or xs i x)) ≤ sum_by (λ y. length (f y)) xs =
    sum_by_more_le (λ y. length (f y)) xs i x inside in
    let item : length (f x) ≡ length (f (get_or xs i x)) = ap (λ y. length (f y)) is in
    omega (arith, size, step, item, length-flat_map f xs)
