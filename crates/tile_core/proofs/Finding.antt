-- The first item that passes a test, in a list that is written over item by item.
use Rattle.std.proofs.Common.{◌≡◌, ℕ, zero, suc, ◌+◌, ◌<◌, Bool, true, false, cond, List, [], ◌∷◌, map, find, take, set, get_or, length, Some, None, add-one, refl, sym, ap, arith}
use Rattle.std.proofs.lemmas.Option.{none-some}
use Rattle.std.proofs.Math.Seq.{map-set_same}

-- an item that passes is written after those that were tested
pub found_at : {X : Type 0} (p : X → Bool) (xs : List X) (i : ℕ) (y : X) → i < length xs → find p (take i xs) ≡ None → p y ≡ true → find p (set xs i y) ≡ Some y
found_at p [] i y inside none passes = absurd (omega (arith, inside))
found_at p (x ∷ xs) zero y inside none passes = ap (λ b. cond b (Some y) (find p xs)) passes
found_at p (x ∷ xs) (suc i) y inside none passes = by (p x) none (λ rest. found_at p xs i y (omega (arith, inside)) rest passes)
  where
    by : (b : Bool) → cond b (Some x) (find p (take i xs)) ≡ None → (find p (take i xs) ≡ None → find p (set xs i y) ≡ Some y) → cond b (Some x) (find p (set xs i y)) ≡ Some y
    by true is next = absurd (none-some x (sym is))
    by false is next = next is

none_after : {X : Type 0} (p : X → Bool) (xs : List X) (i : ℕ) (y : X) → i < length xs → find p (take i xs) ≡ None → p y ≡ false → find p (take (suc i) (set xs i y)) ≡ None
none_after p [] i y inside none fails = absurd (omega (arith, inside))
none_after p (x ∷ xs) zero y inside none fails = ap (λ b. cond b (Some y) None) fails
none_after p (x ∷ xs) (suc i) y inside none fails = by (p x) none (λ rest. none_after p xs i y (omega (arith, inside)) rest fails)
  where
    by : (b : Bool) → cond b (Some x) (find p (take i xs)) ≡ None → (find p (take i xs) ≡ None → find p (take (suc i) (set xs i y)) ≡ None) → cond b (Some x) (find p (take (suc i) (set xs i y))) ≡ None
    by true is next = absurd (none-some x (sym is))
    by false is next = next is

-- an item that fails is written after those that were tested
pub none_more : {X : Type 0} (p : X → Bool) (xs : List X) (i : ℕ) (y : X) → i < length xs → find p (take i xs) ≡ None → p y ≡ false → find p (take (i + 1) (set xs i y)) ≡ None
none_more p xs i y inside none fails = rw (add-one i) (none_after p xs i y inside none fails)

-- where none passes, an item fails
pub fails_at : {X : Type 0} (p : X → Bool) (xs : List X) (i : ℕ) (d : X) → i < length xs → find p xs ≡ None → p (get_or xs i d) ≡ false
fails_at p [] i d inside none = absurd (omega (arith, inside))
fails_at p (x ∷ xs) zero d inside none = by (p x) none
  where
    by : (b : Bool) → cond b (Some x) (find p xs) ≡ None → b ≡ false
    by true is = absurd (none-some x (sym is))
    by false is = refl
fails_at p (x ∷ xs) (suc i) d inside none = fails_at p xs i d (omega (arith, inside)) (by (p x) none)
  where
    by : (b : Bool) → cond b (Some x) (find p xs) ≡ None → find p xs ≡ None
    by true is = absurd (none-some x (sym is))
    by false is = is

-- an item is replaced by one that looks the same
pub same_seen : {X S : Type 0} (f : X → S) (xs : List X) (i : ℕ) (y d : X) → f y ≡ f (get_or xs i d) → map f (set xs i y) ≡ map f xs
same_seen f xs i y d same = map-set_same f xs i y d same
