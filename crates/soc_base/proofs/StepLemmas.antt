-- How a state goes on from one number of steps to another.
use Rattle.std.proofs.Common.{◌≡◌, ℕ, zero, suc, ◌+◌, ◌-◌, ◌≤◌, ◌∙◌, ap, subst, sym, refl, arith}
use Rattle.soc_base.specs.Steps.{after_steps}

-- no step changes nothing
pub steps_none : {S : Type 0} (step : ℕ → S → S) (from n : ℕ) (s : S) → n ≡ 0 → after_steps step from n s ≡ s
unfolding after_steps
steps_none step from n s e = let P : ℕ → Type 0 = λ m. after_steps step from m s ≡ s in subst P (sym e) refl

-- one step more, at number `at`
pub steps_more : {S : Type 0} (step : ℕ → S → S) (from at n : ℕ) (s : S) → from ≤ at → n ≡ at + 1 - from → after_steps step from n s ≡ step at (after_steps step from (at - from) s)
unfolding after_steps
steps_more step from at n s low e =
    let count : suc (at - from) ≡ n = omega arith in
    let last : from + (at - from) ≡ at = omega arith in
    let P : ℕ → Type 0 = λ m. after_steps step from m s ≡ step at (after_steps step from (at - from) s) in
    subst P count (ap (λ k. step k (after_steps step from (at - from) s)) last)

-- n + m steps are m steps after n
pub steps_split : {S : Type 0} (step : ℕ → S → S) (from n m : ℕ) (s : S) → after_steps step from (n + m) s ≡ after_steps step (from + n) m (after_steps step from n s)
unfolding after_steps
steps_split step from n zero s = let e : n + 0 ≡ n = omega arith in ap (λ k. after_steps step from k s) e
steps_split step from n (suc m) s =
    let e : n + suc m ≡ suc (n + m) = omega arith in
    let at : from + (n + m) ≡ from + n + m = omega arith in
    ap (λ k. after_steps step from k s) e ∙ ap (λ k. step k (after_steps step from (n + m) s)) at ∙ ap (step (from + n + m)) (steps_split step from n m s)

-- steps that change nothing leave the state
pub steps_still : {S : Type 0} (step : ℕ → S → S) (from n : ℕ) (s : S) → ((k : ℕ) → step k s ≡ s) → after_steps step from n s ≡ s
unfolding after_steps
steps_still step from zero s still = refl
steps_still step from (suc n) s still = ap (step (from + n)) (steps_still step from n s still) ∙ still (from + n)
