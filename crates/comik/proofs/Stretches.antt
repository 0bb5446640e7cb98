-- Rows one after the other: those that save, those that restore, and the words that they copy.
use Rattle.std.proofs.Common.{◌≡◌, ℕ, zero, suc, ◌+◌, ◌-◌, ◌<◌, ◌≤◌, ◌==◌, true, false, cond, nat_lt, List, get_or, slice_set, length, Option, Some, None, refl, sym, subst, ap, ◌∙◌, arith}
use Rattle.std.proofs.lemmas.Bool.{ne_eqb, lt-ltb, le-ltb}
use Rattle.std.proofs.lemmas.List.{set-get_or, set-set, get_or-set_same, get_or_default}
use Rattle.soc_base.specs.Steps.{after_steps}
use Rattle.soc_base.specs.Time.{FrameTimes}
use Rattle.soc_base.proofs.Laws.{steps_split}
use Rattle.comik.specs.declared.context.Context.{Context}
use Rattle.comik.specs.Context.{fresh_context, copied, copied_words}
use Rattle.comik.specs.Kernel.{KernelState, frame_at}
use Rattle.comik.specs.Table.{latched, swapped, saved, restored, saved_words, restored_words, kernel_row, kernel_rows}
use Rattle.comik.proofs.Switches.{state}
use Rattle.comik.proofs.Still.{rest_still}

-- rows that save, one after the other: the latch, and then the words
saves_as : (k : KernelState) (served o : ℕ) → o < 33 → kernel_row k served o ≡ saved (cond (o == 0) (latched k served) k) o
unfolding kernel_row
saves_as k served o low = let within : nat_lt o 33 ≡ true = lt-ltb o 33 low in rw within

pub rows_saved : (k : KernelState) (served o n : ℕ) → 0 < n → o + n ≤ 33 → kernel_rows k served o n ≡ saved_words (cond (o == 0) (latched k served) k) o n
unfolding after_steps
rows_saved k served o zero some low = absurd (omega arith)
rows_saved k served o (suc zero) some low =
    let none : o + 0 ≡ o = omega arith in
    let P : ℕ → Type 0 = λ m. kernel_row k served m ≡ saved (cond (o == 0) (latched k served) k) m in
    subst P (sym none) (saves_as k served o (omega arith))
rows_saved k served o (suc (suc n)) some low =
    let more = rows_saved k served o (suc n) (omega arith) (omega arith) in
    let at = o + suc n in
    let later : (at == 0) ≡ false = ne_eqb at 0 (λ e. omega arith) in
    let before = kernel_rows k served o (suc n) in
    saves_as before served at (omega arith)
    ∙ ap (λ b. saved (cond b (latched before served) before) at) later
    ∙ ap (λ (s : KernelState). saved s at) more

-- rows that restore: the swap, and then the words
restores_as : (k : KernelState) (served o : ℕ) → 33 ≤ o → o < 66 → kernel_row k served o ≡ restored (cond (o == 33) (swapped k) k) (o - 33)
unfolding kernel_row
restores_as k served o low high =
    let past : nat_lt o 33 ≡ false = le-ltb o 33 low in
    let within : nat_lt o 66 ≡ true = lt-ltb o 66 high in
    rw (past, within)

pub rows_restored : (k : KernelState) (served o n : ℕ) → 0 < n → 33 ≤ o → o + n ≤ 66 → kernel_rows k served o n ≡ restored_words (cond (o == 33) (swapped k) k) (o - 33) n
unfolding after_steps
rows_restored k served o zero some low high = absurd (omega arith)
rows_restored k served o (suc zero) some low high =
    let none : o + 0 ≡ o = omega arith in
    let same : o - 33 + 0 ≡ o - 33 = omega arith in
    let P : ℕ → Type 0 = λ m. kernel_row k served m ≡ restored (cond (o == 33) (swapped k) k) (m - 33) in
    subst P (sym none) (restores_as k served o low (omega arith)) ∙ ap (λ m. restored (cond (o == 33) (swapped k) k) m) (ap (λ m. m - 33) none ∙ sym same)
rows_restored k served o (suc (suc n)) some low high =
    let more = rows_restored k served o (suc n) (omega arith) low (omega arith) in
    let at = o + suc n in
    let later : (at == 33) ≡ false = ne_eqb at 33 (λ e. omega arith) in
    let before = kernel_rows k served o (suc n) in
    let same : at - 33 ≡ o - 33 + suc n = omega arith in
    restores_as before served at (omega arith) (omega arith)
    ∙ ap (λ b. restored (cond b (swapped before) before) (at - 33)) later
    ∙ ap (λ m. restored before m) same
    ∙ ap (λ (s : KernelState). restored s (o - 33 + suc n)) more

-- all rows: those that save, those that restore, and the rest
pub rows_cut : (k : KernelState) (served o n saves restores : ℕ) → saves ≤ n → restores ≤ n - saves → (saves + restores < n → 66 ≤ o + saves + restores) → kernel_rows k served o n ≡ kernel_rows (kernel_rows k served o saves) served (o + saves) restores
rows_cut k served o n saves restores first second still =
    let rest = n - saves - restores in
    let all : n ≡ saves + restores + rest = omega arith in
    let step : ℕ → KernelState → KernelState = λ at s. kernel_row s served at in
    ap (λ m. kernel_rows k served o m) all
    ∙ steps_split step o (saves + restores) rest k
    ∙ rest_still (kernel_rows k served o (saves + restores)) served (o + (saves + restores)) rest (λ some. let past = still (omega arith) in omega arith)
    ∙ steps_split step o saves restores k

-- words that are saved: those of the frame of the part that is held
saves_in : (times : FrameTimes) (file : Context) (frames : List Context) (owners : List (Option ℕ)) (next : Option ℕ) (p first n : ℕ) → p < length frames → saved_words (state times file frames owners (Some p) next) first n ≡ state times file (slice_set frames p (copied_words (get_or frames p (fresh_context 0)) file first n)) owners (Some p) next
unfolding after_steps
saves_in times file frames owners next p first zero inside = ap (λ (fs : List Context). state times file fs owners (Some p) next) (sym (set-get_or frames p (fresh_context 0)))
saves_in times file frames owners next p first (suc n) inside =
    let words = copied_words (get_or frames p (fresh_context 0)) file first n in
    let read : get_or (slice_set frames p words) p (fresh_context 0) ≡ words = get_or-set_same frames p words (fresh_context 0) inside in
    ap (λ (s : KernelState). saved s (first + n)) (saves_in times file frames owners next p first n inside)
    ∙ ap (λ (x : Context). state times file (slice_set (slice_set frames p words) p (copied x file (first + n))) owners (Some p) next) read
    ∙ ap (λ (fs : List Context). state times file fs owners (Some p) next) (set-set frames p words (copied words file (first + n)))

pub words_saved : (k : KernelState) (p first n : ℕ) → k.held ≡ Some p → p < length k.frames → saved_words k first n ≡ record k { frames = slice_set k.frames p (copied_words (frame_at k p) k.file first n) }
words_saved k p first n held inside =
    let P : Option ℕ → Type 0 = λ h. saved_words (state k.times k.file k.frames k.owners h k.next) first n ≡ state k.times k.file (slice_set k.frames p (copied_words (frame_at k p) k.file first n)) k.owners h k.next in
    subst P (sym held) (saves_in k.times k.file k.frames k.owners k.next p first n inside)

-- the same, told by what the frame was and what it becomes
pub frame_saved : (k : KernelState) (p i first n : ℕ) (was new : Context) → k.held ≡ Some p → i ≡ p → p < length k.frames → was ≡ get_or k.frames i was → new ≡ copied_words was k.file first n → record k { frames = slice_set k.frames i new } ≡ saved_words k first n
frame_saved k p i first n was new held same inside read is =
    let low : i < length k.frames = omega arith in
    let here : was ≡ frame_at k i = read ∙ get_or_default k.frames i was (fresh_context 0) low in
    let there : was ≡ frame_at k p = here ∙ ap (frame_at k) same in
    ap (λ (j : ℕ). let s : KernelState = record k { frames = slice_set k.frames j new } in s) same
    ∙ ap (λ (x : Context). let s : KernelState = record k { frames = slice_set k.frames p x } in s) (is ∙ ap (λ (x : Context). copied_words x k.file first n) there)
    ∙ sym (words_saved k p first n held inside)

-- words that are restored: those of the register file
restores_in : (times : FrameTimes) (file : Context) (frames : List Context) (owners : List (Option ℕ)) (next : Option ℕ) (p first n : ℕ) → restored_words (state times file frames owners (Some p) next) first n ≡ state times (copied_words file (get_or frames p (fresh_context 0)) first n) frames owners (Some p) next
unfolding after_steps
restores_in times file frames owners next p first zero = refl
restores_in times file frames owners next p first (suc n) = ap (λ (s : KernelState). restored s (first + n)) (restores_in times file frames owners next p first n)

pub words_restored : (k : KernelState) (p first n : ℕ) → k.held ≡ Some p → restored_words k first n ≡ record k { file = copied_words k.file (frame_at k p) first n }
words_restored k p first n held =
    let P : Option ℕ → Type 0 = λ h. restored_words (state k.times k.file k.frames k.owners h k.next) first n ≡ state k.times (copied_words k.file (frame_at k p) first n) k.frames k.owners h k.next in
    subst P (sym held) (restores_in k.times k.file k.frames k.owners k.next p first n)

-- where no part is held no word is copied
saves_none : (times : FrameTimes) (file : Context) (frames : List Context) (owners : List (Option ℕ)) (next : Option ℕ) (first n : ℕ) → saved_words (state times file frames owners None next) first n ≡ state times file frames owners None next
unfolding after_steps
saves_none times file frames owners next first zero = refl
saves_none times file frames owners next first (suc n) = ap (λ (s : KernelState). saved s (first + n)) (saves_none times file frames owners next first n)

pub none_saved : (k : KernelState) (first n : ℕ) → k.held ≡ None → saved_words k first n ≡ k
none_saved k first n held =
    let P : Option ℕ → Type 0 = λ h. saved_words (state k.times k.file k.frames k.owners h k.next) first n ≡ state k.times k.file k.frames k.owners h k.next in
    subst P (sym held) (saves_none k.times k.file k.frames k.owners k.next first n)

restores_none : (times : FrameTimes) (file : Context) (frames : List Context) (owners : List (Option ℕ)) (next : Option ℕ) (first n : ℕ) → restored_words (state times file frames owners None next) first n ≡ state times file frames owners None next
unfolding after_steps
restores_none times file frames owners next first zero = refl
restores_none times file frames owners next first (suc n) = ap (λ (s : KernelState). restored s (first + n)) (restores_none times file frames owners next first n)

pub none_restored : (k : KernelState) (first n : ℕ) → k.held ≡ None → restored_words k first n ≡ k
none_restored k first n held =
    let P : Option ℕ → Type 0 = λ h. restored_words (state k.times k.file k.frames k.owners h k.next) first n ≡ state k.times k.file k.frames k.owners h k.next in
    subst P (sym held) (restores_none k.times k.file k.frames k.owners k.next first n)
