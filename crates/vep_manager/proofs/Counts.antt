-- How many items of a list pass a test.
use Rattle.std.proofs.Common.{◌≡◌, ℕ, zero, suc, ◌+◌, ◌<◌, Bool, true, cond, List, [], ◌∷◌, length, get_or, inl, inr, refl, ap, ◌∙◌, sym, arith}
use Rattle.std.specs.Prelude.{◌&&◌}
use Rattle.std.specs.List.{count_by}
use Rattle.std.proofs.lemmas.Bool.{cases_Bool}
use Rattle.std.proofs.lemmas.List.Sums.{sum_by-cons, get_or-le-sum_by}

-- 1 where a test passes
abbrev pub one_if : Bool → ℕ
one_if b = cond b 1 0

pub one_true : (b : Bool) → b ≡ true → one_if b ≡ 1
one_true b is = ap one_if is

pub count_cons : {X : Type 0} (p : X → Bool) (x : X) (xs : List X) → count_by p (x ∷ xs) ≡ one_if (p x) + count_by p xs
count_cons p x xs = sum_by-cons (λ y. one_if (p y)) x xs

-- all of them
pub count_all : {X : Type 0} (xs : List X) → count_by (λ x. true) xs ≡ length xs
count_all [] = refl
count_all (x ∷ xs) = let rest = count_all xs in omega (arith, rest, count_cons (λ x. true) x xs)

-- one that passes makes the number positive
pub some_count : {X : Type 0} (p : X → Bool) (xs : List X) (i : ℕ) (d : X) → i < length xs → p (get_or xs i d) ≡ true → 0 < count_by p xs
some_count p xs i d inside passes =
    let one = one_true (p (get_or xs i d)) passes in
    let low = get_or-le-sum_by (λ x. one_if (p x)) xs i d inside in
    omega (arith, one, low)

-- and where it is positive, one passes
pub count_some : {X : Type 0} (p : X → Bool) (xs : List X) → 0 < count_by p xs
    → (i : ℕ) × (i < length xs) × ((d : X) → p (get_or xs i d) ≡ true)
count_some p [] some = absurd (omega (arith, some))
count_some p (x ∷ xs) some =
    elim (cases_Bool (p x)) [
      | inl passes ↦ (zero, omega arith, λ d. passes)
      | inr fails ↦
          let none = ap one_if fails in
          let rest = count_some p xs (omega (arith, some, none, count_cons p x xs)) in
          (suc rest.0, omega (arith, rest.1), rest.2)
    ]

pub and_one : (b : Bool) → one_if (b && true) ≡ one_if b
and_one b = elim (cases_Bool b) [ inl is ↦ ap (λ c. one_if (c && true)) is ∙ sym (ap one_if is) | inr is ↦ ap (λ c. one_if (c && true)) is ∙ sym (ap one_if is) ]
