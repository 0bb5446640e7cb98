-- Lists that are made of the numbers from 0 on, and texts that are printed item by item.
use Rattle.std.proofs.Common.{◌≡◌, ℕ, ◌+◌, ◌<◌, ◌%◌, ◌^◌, Bool, List, [], ◌∷◌, ◌++◌, length, map, take, get_or, slice_get, slice_set, Option, sym, ap, ap₂, ◌∙◌, append-nil, arith}
use Rattle.std.specs.List.{flat_map, range_with_len}
use Rattle.std.specs.Option.{option_map_or}
use Rattle.std.proofs.lemmas.Grind.{flat_map-append, take-set_at}
use Rattle.std.proofs.lemmas.List.Folds.{flat_map-map}
use Rattle.std.proofs.lemmas.List.{take_more, take_all}
use Rattle.std.proofs.lemmas.List.FromFn.{map-range_with_len_more, sum_by-map-range_with_len_more}
use Rattle.std.proofs.lemmas.Option.{slice_get-get_or}
use Rattle.report_text.specs.State.{total}
use Rattle.report_text.proofs.Prints.{GoesOn, prints_then, prints_same}

-- the texts of one number more
pub texts_more : {X : Type 0} (f : ℕ → List X) (n : ℕ)
    → flat_map f (range_with_len 0 (n + 1)) ≡ flat_map f (range_with_len 0 n) ++ f n
texts_more {X} f n =
    let id : ℕ → ℕ = λ k. k in
    sym (flat_map-map f id (range_with_len 0 (n + 1)))
    ∙ ap (flat_map f) (map-range_with_len_more id 0 n n (omega arith))
    ∙ flat_map-append f _ (n ∷ [])
    ∙ ap₂ (λ (s t : List X). s ++ t) (flat_map-map f id (range_with_len 0 n)) (append-nil (f n))

-- the texts of one item more
texts_next : {X Y : Type 0} (f : X → List Y) (xs : List X) (i : ℕ) (d : X) → i < length xs
    → flat_map f (take (i + 1) xs) ≡ flat_map f (take i xs) ++ f (get_or xs i d)
texts_next {X} {Y} f xs i d within =
    ap (flat_map f) (take_more xs i d within) ∙ flat_map-append f (take i xs) (get_or xs i d ∷ [])
    ∙ ap (λ (t : List Y). flat_map f (take i xs) ++ t) (append-nil (f (get_or xs i d)))

-- What a sink holds, its count of faults and whether a write to it has failed: before a loop, after some of its
-- texts, and after one text more.
module _ {mid : Option (List ℕ)} {between : ℕ} {stopped : Bool} {late : Option (List ℕ)} {later : ℕ} {over : Bool}
    {new : Option (List ℕ)} {now : ℕ} {failed : Bool} where
  -- the text of the next number
  pub prints_number : (f : ℕ → List ℕ) (n : ℕ)
      → GoesOn (flat_map f (range_with_len 0 n)) mid between stopped late later over
      → GoesOn (f n) late later over new now failed
      → GoesOn (flat_map f (range_with_len 0 (n + 1))) mid between stopped new now failed
  prints_number f n first next =
      prints_same _ _ _ _ _ _ _ _ (sym (texts_more f n)) (prints_then _ _ _ _ _ _ _ _ _ _ _ first next)

  -- the text of the next item of a list
  pub prints_item : {X : Type 0} (f : X → List ℕ) (xs : List X) (i : ℕ) (x : X) → i < length xs → x ≡ get_or xs i x
      → GoesOn (flat_map f (take i xs)) mid between stopped late later over
      → GoesOn (f x) late later over new now failed
      → GoesOn (flat_map f (take (i + 1) xs)) mid between stopped new now failed
  prints_item f xs i x within is first next =
      prints_same _ _ _ _ _ _ _ _
      (ap (λ y. flat_map f (take i xs) ++ f y) is ∙ sym (texts_next f xs i x within))
      (prints_then _ _ _ _ _ _ _ _ _ _ _ first next)

  -- the same where the item may be none
  pub prints_found : (f : ℕ → List ℕ) (xs : List ℕ) (i : ℕ) → i < length xs
      → GoesOn (flat_map f (take i xs)) mid between stopped late later over
      → GoesOn (option_map_or f (slice_get xs i) []) late later over new now failed
      → GoesOn (flat_map f (take (i + 1) xs)) mid between stopped new now failed
  prints_found f xs i within first next =
      prints_same _ _ _ _ _ _ _ _
      (ap (λ (o : Option ℕ). flat_map f (take i xs) ++ option_map_or f o []) (slice_get-get_or xs i 0 within)
      ∙ sym (texts_next f xs i 0 within))
      (prints_then _ _ _ _ _ _ _ _ _ _ _ first next)

-- an array that is filled word by word
pub filled_more : (f : ℕ → ℕ) (xs : List ℕ) (n place y : ℕ) → place ≡ n → n < length xs → y ≡ f n
    → take n xs ≡ map f (range_with_len 0 n)
    → take (n + 1) (slice_set xs place y) ≡ map f (range_with_len 0 (n + 1))
filled_more f xs n place y there within is so_far =
    ap (λ (k : ℕ). take (n + 1) (slice_set xs k y)) there
    ∙ take-set_at xs n (n + 1) y (omega arith) within
    ∙ ap₂ (λ (s : List ℕ) (v : ℕ). s ++ v ∷ []) so_far is
    ∙ sym (map-range_with_len_more f 0 n n (omega arith))

pub filled_all : (f : ℕ → ℕ) (xs : List ℕ) (n : ℕ) → length xs ≡ 33 → n ≡ 33
    → take n xs ≡ map f (range_with_len 0 n) → xs ≡ map f (range_with_len 0 33)
filled_all f xs n size all so_far =
    sym (take_all n xs (omega arith)) ∙ so_far ∙ ap (λ k. map f (range_with_len 0 k)) all

-- sums in 32 bits
pub total_more : (f : ℕ → ℕ) (n : ℕ)
    → total (map f (range_with_len 0 (n + 1))) ≡ total (map f (range_with_len 0 n)) + f n
total_more f n = sum_by-map-range_with_len_more (λ number. number) f 0 n n (omega arith)

pub sum_of_four : (a b c d one two three four : ℕ) → a ≡ one % 2 ^ 32 → b ≡ two % 2 ^ 32 → c ≡ three % 2 ^ 32
    → d ≡ four % 2 ^ 32 → (a + b + c + d) % 2 ^ 32 ≡ (one + two + three + four) % 2 ^ 32
sum_of_four a b c d one two three four first second third fourth = omega arith
