-- A list that was written from the front.
use Rattle.std.proofs.Common.{◌≡◌, ℕ, ◌+◌, ◌<◌, List, ◌++◌, map, take, drop, length, get_or, set, arith, ◌∙◌, replicate}
use Rattle.std.proofs.lemmas.Grind.{common_steps}
use Rattle.std.proofs.lemmas.List.{get_or_default, take_more, replicate_more}
use Rattle.std.proofs.lemmas.List.Edits.{map_over_more}

-- written to the end
pub all_written : {X Y : Type 0} (f : X → Y) (n : ℕ) (xs : List X) (ys : List Y) → length xs ≡ n → length ys ≡ n → take n ys ≡ map f (take n xs) → ys ≡ map f xs
all_written f n xs ys long as_long is = grind (arith, common_steps)

-- one element more that is written over by its image
pub written_more : {X : Type 0} (f : X → X) (i : ℕ) (xs ys : List X) (d new : X) → i < length xs → ys ≡ map f (take i xs) ++ drop i xs → new ≡ f (get_or ys i d) → set ys i new ≡ map f (take (i + 1) xs) ++ drop (i + 1) xs
written_more f i xs ys d new inside is image =
    let long : length ys ≡ length xs = grind (arith, common_steps) in
    rw image (map_over_more f xs ys i (get_or ys i d) inside is (get_or_default ys i d (get_or ys i d) (omega arith)))

-- one element more that is the same
pub same_more : {X : Type 0} (xs : List X) (i : ℕ) (a d : X) → i < length xs → take i xs ≡ replicate i a → get_or xs i d ≡ a → take (i + 1) xs ≡ replicate (i + 1) a
same_more xs i a d inside same is = take_more xs i d inside ∙ cc (same, is) ∙ replicate_more i a

-- all elements are the same
pub same_all : {X : Type 0} (xs : List X) (n : ℕ) (a : X) → n ≡ length xs → take n xs ≡ replicate n a → xs ≡ replicate n a
same_all xs n a long same = grind (arith, common_steps)
