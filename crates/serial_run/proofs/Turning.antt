-- A loop that gives each item of a list a turn.
use Rattle.std.proofs.Common.{◌≡◌, ℕ, ◌+◌, ◌<◌, List, [], ◌∷◌, ◌++◌, take, drop, set, get_or, length, sym, ap, subst, ◌∙◌, arith}
use Rattle.std.specs.List.{AllZip}
use Rattle.std.proofs.lemmas.List.{drop_more, drop-set-lt, take_more_set, take_more}
use Rattle.std.proofs.lemmas.Slice.Zip.{all_zipped_more}
use Rattle.std.proofs.lemmas.Grind.{drop_more_same}

module _ {X : Type 0} where
  -- the items that are still to have theirs are as before
  pub rest_more : (xs ys : List X) (i : ℕ) (y : X) → drop i ys ≡ drop i xs → drop (i + 1) (set ys i y) ≡ drop (i + 1) xs
  rest_more xs ys i y rest = drop-set-lt (i + 1) ys i y (omega arith) ∙ drop_more_same ys xs i rest

  -- the next item is the list's own
  pub next_same : (xs ys : List X) (i : ℕ) (d : X) → i < length ys → length ys ≡ length xs → drop i ys ≡ drop i xs
      → get_or ys i d ≡ get_or xs i d
  next_same xs ys i d inside same rest =
      let both : get_or ys i d ∷ drop (i + 1) ys ≡ get_or xs i d ∷ drop (i + 1) xs =
      sym (drop_more ys i d inside) ∙ rest ∙ drop_more xs i d (omega (arith, inside, same)) in
      ap (λ zs. get_or zs 0 d) both

  -- one turn more
  pub zip_more : (R : X → X → Type 0) (xs ys : List X) (i : ℕ) (d y : X) → i < length ys → length ys ≡ length xs
      → drop i ys ≡ drop i xs → AllZip R (take i xs) (take i ys) → R (get_or ys i d) y
      → AllZip R (take (i + 1) xs) (take (i + 1) (set ys i y))
  zip_more R xs ys i d y inside long rest before here =
      let Front = λ (front : List X). AllZip R front (take (i + 1) (set ys i y)) in
      let Now = λ (now : List X). AllZip R (take i xs ++ get_or xs i d ∷ []) now in
      let At = λ (x : X). R x y in
      subst Front (sym (take_more xs i d (omega (arith, inside, long))))
      (subst Now (sym (take_more_set ys i y inside))
      (all_zipped_more R (take i xs) (take i ys) (get_or xs i d) y before
      (subst At (next_same xs ys i d inside long rest) here)))
