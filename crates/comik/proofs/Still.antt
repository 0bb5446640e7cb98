-- A kernel that has nothing to do, and rows in which nothing is done.
use Rattle.std.proofs.Common.{◌≡◌, ℕ, zero, suc, ◌+◌, ◌-◌, ◌<◌, ◌≤◌, ◌==◌, Bool, true, false, cond, nat_lt, List, get_or, Option, None, refl, sym, subst, ap, ◌∙◌, arith}
use Rattle.soc_base.specs.Steps.{after_steps}
use Rattle.soc_base.specs.Time.{FrameTimes}
use Rattle.comik.specs.declared.context.Context.{Context}
use Rattle.comik.specs.Kernel.{KernelState, owner_at}
use Rattle.comik.specs.Table.{latched, swapped, saved, restored, kernel_row, kernel_rows}
use Rattle.comik.proofs.Switches.{state, row_still}

-- nothing is held or next, and nobody owns the slot that is served
still_parts : (times : FrameTimes) (file : Context) (frames : List Context) (owners : List (Option ℕ)) (served o : ℕ) → get_or owners served None ≡ None → kernel_row (state times file frames owners None None) served o ≡ state times file frames owners None None
unfolding kernel_row
still_parts times file frames owners served o none =
    let k = state times file frames owners None None in
    let latches : latched k served ≡ k = ap (λ (n : Option ℕ). state times file frames owners None n) none in
    let one : (b : Bool) → saved (cond b (latched k served) k) o ≡ k = λ b. elim b as (λ b. saved (cond b (latched k served) k) o ≡ k) [ true ↦ latches | false ↦ refl ] in
    let two : (b : Bool) → restored (cond b (swapped k) k) (o - 33) ≡ k = λ b. elim b as (λ b. restored (cond b (swapped k) k) (o - 33) ≡ k) [ true ↦ refl | false ↦ refl ] in
    let last : (b : Bool) → cond b (restored (cond (o == 33) (swapped k) k) (o - 33)) k ≡ k = λ b. elim b as (λ b. cond b (restored (cond (o == 33) (swapped k) k) (o - 33)) k ≡ k) [ true ↦ two (o == 33) | false ↦ refl ] in
    let first : (b c : Bool) → cond b (saved (cond (o == 0) (latched k served) k) o) (cond c (restored (cond (o == 33) (swapped k) k) (o - 33)) k) ≡ k = λ b c. elim b as (λ b. cond b (saved (cond (o == 0) (latched k served) k) o) (cond c (restored (cond (o == 33) (swapped k) k) (o - 33)) k) ≡ k) [ true ↦ one (o == 0) | false ↦ last c ] in
    first (nat_lt o 33) (nat_lt o 66)

pub still_row : (k : KernelState) (served o : ℕ) → k.held ≡ None → k.next ≡ None → owner_at k served ≡ None → kernel_row k served o ≡ k
still_row k served o held next none =
    let P : Option ℕ → Type 0 = λ h. kernel_row (state k.times k.file k.frames k.owners h None) served o ≡ state k.times k.file k.frames k.owners h None in
    let Q : Option ℕ → Type 0 = λ n. kernel_row (state k.times k.file k.frames k.owners k.held n) served o ≡ state k.times k.file k.frames k.owners k.held n in
    subst Q (sym next) (subst P (sym held) (still_parts k.times k.file k.frames k.owners served o none))

-- rows from offset 66 on
pub still_rows : (k : KernelState) (served o n : ℕ) → 66 ≤ o → kernel_rows k served o n ≡ k
unfolding after_steps
still_rows k served o zero high = refl
still_rows k served o (suc n) high = ap (λ (s : KernelState). kernel_row s served (o + n)) (still_rows k served o n high) ∙ row_still k served (o + n) (omega arith)

-- rows of which there is none, or which begin at offset 66 or later
pub rest_still : (k : KernelState) (served o n : ℕ) → (0 < n → 66 ≤ o) → kernel_rows k served o n ≡ k
unfolding after_steps
rest_still k served o zero still = refl
rest_still k served o (suc n) still = still_rows k served o (suc n) (still (omega arith))
