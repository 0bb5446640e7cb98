-- A list that is worked on in two parts.
use Rattle.std.proofs.Common.{◌≡◌, ◌≢◌, ℕ, ◌+◌, ◌-◌, ◌<◌, ◌≤◌, List, ◌++◌, take, drop, set, get_or, slice_get, length, length-append, Some, subst, sym, ap, ◌∙◌, arith}
use Rattle.std.proofs.lemmas.List.{set-append_left, set-append_right, length-set, get_or_append_left, get_or-append-add}
use Rattle.std.proofs.lemmas.Grind.{common_steps}
use Rattle.std.proofs.lemmas.Option.{same_Some, slice_get-get_or}

module _ {X : Type 0} where
  -- an item of the front
  pub part_left : (xs front back : List X) (n i : ℕ) (d : X) → xs ≡ front ++ back → length front ≡ n → i < n
      → slice_get xs i ≡ Some (get_or front i d)
  part_left xs front back n i d is long inside =
      let low : i < length front = omega (arith, long, inside) in
      let within : i < length (front ++ back) = omega (arith, low, length-append front back) in
      ap (λ l. slice_get l i) is ∙ slice_get-get_or (front ++ back) i d within
      ∙ ap Some (get_or_append_left front back d i low)

  -- the first item of the back
  pub part_right : (xs front back : List X) (n : ℕ) (d : X) → xs ≡ front ++ back → length front ≡ n → n < length xs
      → slice_get xs n ≡ Some (get_or back 0 d)
  part_right xs front back n d is long inside =
      let same : length xs ≡ length (front ++ back) = ap length is in
      let within : length front + 0 < length (front ++ back) = omega (arith, same, long, inside) in
      let at : n ≡ length front + 0 = omega (arith, long) in
      ap (λ l. slice_get l n) is ∙ ap (slice_get (front ++ back)) at
      ∙ slice_get-get_or (front ++ back) (length front + 0) d within ∙ ap Some (get_or-append-add front back 0 d)

  -- a write in the front and then one at the first place of the back
  pub written_up : (xs front back : List X) (i n : ℕ) (a b : X) → xs ≡ front ++ back → length front ≡ n → i < n
      → set front i a ++ set back 0 b ≡ set (set xs i a) n b
  written_up xs front back i n a b is long inside =
      let low : i < length front = omega (arith, long, inside) in
      let after : length (set front i a) ≡ n = length-set front i a ∙ long in
      let first : n - n ≡ 0 = omega arith in
      sym
      (ap (λ l. set (set l i a) n b) is ∙ ap (λ l. set l n b) (set-append_left front back i a low)
      ∙ set-append_right (set front i a) back n n b after (omega arith)
      ∙ ap (λ k. set front i a ++ set back k b) first)

  -- a write at the first place of the back and then one in the front
  pub written_down : (xs front back : List X) (i n : ℕ) (a b : X) → xs ≡ front ++ back → length front ≡ n → i < n
      → set front i b ++ set back 0 a ≡ set (set xs n a) i b
  written_down xs front back i n a b is long inside =
      let low : i < length front = omega (arith, long, inside) in
      let first : n - n ≡ 0 = omega arith in
      sym
      (ap (λ l. set (set l n a) i b) is
      ∙ ap (λ l. set l i b)
      (set-append_right front back n n a long (omega arith) ∙ ap (λ k. front ++ set back k a) first)
      ∙ set-append_left front (set back 0 a) i b low)

  -- what holds of the items at two places
  pub at_both : (P : X → X → Type 0) (xs : List X) (i j : ℕ) (a b s r : X) → slice_get xs i ≡ Some a
      → slice_get xs j ≡ Some b → slice_get xs i ≡ Some s → slice_get xs j ≡ Some r → P a b → P s r
  at_both P xs i j a b s r at_a at_b at_s at_r holds =
      subst (λ x. P x r) (same_Some a s (sym at_a ∙ at_s)) (subst (P a) (same_Some b r (sym at_b ∙ at_r)) holds)

pub moved : {X Y : Type 0} (P : X → Y → Type 0) (a : X) (b : Y) (s : X) (r : Y) → a ≡ s → b ≡ r → P a b → P s r
moved P a b s r is are holds = subst (λ x. P x r) is (subst (P a) are holds)

-- a vector whose items were written over by as many
pub refilled : {X : Type 0} (n : ℕ) (ws items target : List X) → ws ≡ target → length target ≡ length items
    → n ≡ length items → take n (ws ++ drop (length ws) items) ≡ target
refilled n ws items target is same all = grind (arith, common_steps)

pub below : (i n : ℕ) → n ≢ i → i ≤ n → i < n
below i n apart above = omega (arith, apart, above)
