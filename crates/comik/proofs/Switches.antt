-- What a row of the table keeps.
use Rattle.std.proofs.Common.{◌≡◌, ℕ, ◌+◌, ◌-◌, ◌<◌, ◌≤◌, ◌==◌, Bool, true, false, cond, ◌&&◌, ◌⊎◌, nat_lt, List, get_or, slice_set, slice_index, length, Option, Some, None, IfSome, All, refl, sym, subst, ap, ◌∙◌, inl, inr, arith}
use Rattle.std.proofs.lemmas.Bool.{cases_eq, cases_lt, eq-eqb, ne_eqb, lt-ltb, le-ltb, and_left, and_right, and_from}
use Rattle.std.proofs.lemmas.List.{get_or-set_same, get_or-set_other, length-set}
use Rattle.std.proofs.lemmas.List.Elements.{All-get_or}
use Rattle.soc_base.specs.Time.{FrameTimes, offset_at, served_at}
use Rattle.soc_base.specs.Frame.{IsFrame}
use Rattle.comik.proofs.Times.{next_offset}
use Rattle.comik.specs.declared.context.Context.{Context}
use Rattle.comik.specs.Context.{fresh_context, copied, IsContext}
use Rattle.comik.specs.Kernel.{KernelState, IsBelow, owner_at}
use Rattle.comik.specs.Table.{latched, swapped, saved, restored, kernel_row, kernel_cycle}
use Rattle.comik.specs.Switching.{blend, held_context, context_in, IsSaved, InStep, HasWords, Keeps}
use Rattle.comik.proofs.Blending.{blend_all, saved_more, restored_more, copied_register, copied_left}

abbrev pub state : FrameTimes → Context → List Context → List (Option ℕ) → Option ℕ → Option ℕ → KernelState
state times file frames owners held next = record { times = times; file = file; frames = frames; owners = owners; held = held; next = next }

pub held_is : (offset : ℕ) (file frame : Context) → (offset ≤ 33) ⊎ (66 ≤ offset) → held_context offset file frame ≡ file
held_is offset file frame (inl low) =
    let past : (nat_lt 33 offset && nat_lt offset 66) ≡ false = and_left (nat_lt 33 offset) (nat_lt offset 66) (le-ltb 33 offset low) in
    rw past
held_is offset file frame (inr high) =
    let past : (nat_lt 33 offset && nat_lt offset 66) ≡ false = and_right (nat_lt 33 offset) (nat_lt offset 66) (le-ltb offset 66 high) in
    rw past

held_coming : (offset : ℕ) (file frame : Context) → 33 < offset → offset < 66 → held_context offset file frame ≡ blend (offset - 33) file frame
held_coming offset file frame low high =
    let within : (nat_lt 33 offset && nat_lt offset 66) ≡ true = and_from (nat_lt 33 offset) (nat_lt offset 66) (lt-ltb 33 offset low) (lt-ltb offset 66 high) in
    rw within

-- the words of the part that is held, and of another
pub of_held : (p : ℕ) (file : Context) (frames : List Context) (offset : ℕ) → context_in (Some p) file frames offset p ≡ held_context offset file (get_or frames p (fresh_context 0))
of_held p file frames offset = let e : (p == p) ≡ true = eq-eqb p p refl in rw e

pub of_other : (p q : ℕ) (file : Context) (frames : List Context) (offset : ℕ) → (p ≡ q → ⊥) → context_in (Some p) file frames offset q ≡ get_or frames q (fresh_context 0)
of_other p q file frames offset other = let e : (p == q) ≡ false = ne_eqb p q other in rw e

pub context_copied : (to from : Context) (n : ℕ) → IsContext to → IsContext (copied to from n)
context_copied to from n whole = elim (cases_eq n 0) [
  | inl first ↦
      let P : ℕ → Type 0 = λ m. IsContext (copied to from m) in
      subst P (sym first) (record { count = whole.count; zero = whole.zero })
  | inr later ↦ elim (cases_lt n 32) [
    | inl register ↦ subst IsContext (sym (copied_register n to from later register)) (record {
      count = length-set to.regs.x n (slice_index from.regs.x n) ∙ whole.count;
      zero = get_or-set_other to.regs.x n 0 (slice_index from.regs.x n) 0 (λ e. later (sym e)) ∙ whole.zero;
    })
    | inr last ↦ subst IsContext (sym (copied_left n to from last)) (record { count = whole.count; zero = whole.zero })
  ]
]

pub frame_whole : (frames : List Context) (p count : ℕ) → length frames ≡ count → p < count → All IsContext frames → IsContext (get_or frames p (fresh_context 0))
frame_whole frames p count size low all = All-get_or IsContext frames p (fresh_context 0) (omega arith) all

-- the words of the part that is held
pub record HeldWords (count : ℕ) (file : Context) (frames : List Context) (held : Option ℕ) : Type 0 where
  pub size : length frames ≡ count
  pub below : IsBelow count held
  pub file_is : IsContext file
  pub frame_is : IfSome held (λ part. IsContext (get_or frames part (fresh_context 0)))

none_saved : (o : ℕ) (file frame : Context) → IsSaved o file frame → o < 33 → blend o file frame ≡ frame
none_saved o file frame before low = elim (cases_eq o 0) [
  | inl first ↦
      let P : ℕ → Type 0 = λ m. blend m file frame ≡ frame in
      subst P (sym first) refl
  | inr later ↦ before.saved (omega arith) (omega arith)
]

keeps_saved : (times : FrameTimes) (file : Context) (frames : List Context) (owners : List (Option ℕ)) (held next : Option ℕ) (o : ℕ) → o < 33 → HeldWords times.slots file frames held → InStep (state times file frames owners held next) o → Keeps (state times file frames owners held next) o (saved (state times file frames owners held next) o) (o + 1)
keeps_saved times file frames owners None next o low whole step = record { step = tt; contexts = λ part. refl }
keeps_saved times file frames owners (Some p) next o low whole step =
    let frame = get_or frames p (fresh_context 0) in
    let inside : p < length frames = omega (arith, whole.size, whole.below) in
    let ready = whole.frame_is in
    let frames' = slice_set frames p (copied frame file o) in
    let read : get_or frames' p (fresh_context 0) ≡ copied frame file o = get_or-set_same frames p (copied frame file o) (fresh_context 0) inside in
    let P : Context → Type 0 = λ x. blend (o + 1) file x ≡ x in
    let more = subst P (sym read) (saved_more o file frame low whole.file_is ready (none_saved o file frame step low)) in
    record {
      step = record { saved = λ _ _. more };
      contexts = λ part. elim (cases_eq p part) [
        | inl same ↦
            let Q : ℕ → Type 0 = λ q. context_in (Some p) file frames' (o + 1) q ≡ context_in (Some p) file frames o q in
            subst Q same (of_held p file frames' (o + 1) ∙ held_is (o + 1) file _ (inl (omega arith)) ∙ sym (held_is o file frame (inl (omega arith))) ∙ sym (of_held p file frames o))
        | inr other ↦ of_other p part file frames' (o + 1) other ∙ get_or-set_other frames p part (copied frame file o) (fresh_context 0) (λ e. other (sym e)) ∙ sym (of_other p part file frames o other)
      ];
    }

-- the words that come
coming : (file frame : Context) (o : ℕ) → 33 < o → o < 66 → IsContext file → IsContext frame → held_context (o + 1) (copied file frame (o - 33)) frame ≡ held_context o file frame
coming file frame o low high one other = elim (cases_lt (o + 1) 66) [
  | inl more ↦
      let next : o + 1 - 33 ≡ (o - 33) + 1 = omega arith in
      held_coming (o + 1) (copied file frame (o - 33)) frame (omega arith) more
      ∙ ap (λ (n : ℕ). blend n (copied file frame (o - 33)) frame) next
      ∙ restored_more (o - 33) file frame (omega arith) one other
      ∙ sym (held_coming o file frame low high)
  | inr last ↦
      let at : o ≡ 65 = omega arith in
      let P : ℕ → Type 0 = λ m. held_context (m + 1) (copied file frame (m - 33)) frame ≡ held_context m file frame in
      subst P (sym at) (sym (blend_all (copied file frame 32) frame (context_copied file frame 32 one) other) ∙ restored_more 32 file frame (omega arith) one other)
]

keeps_restored : (times : FrameTimes) (file : Context) (frames : List Context) (owners : List (Option ℕ)) (held next : Option ℕ) (o : ℕ) → 33 < o → o < 66 → HeldWords times.slots file frames held → Keeps (state times file frames owners held next) o (restored (state times file frames owners held next) (o - 33)) (o + 1)
keeps_restored times file frames owners None next o low high whole = record { step = tt; contexts = λ part. refl }
keeps_restored times file frames owners (Some p) next o low high whole =
    let frame = get_or frames p (fresh_context 0) in
    let ready = whole.frame_is in
    let file' = copied file frame (o - 33) in
    record {
      step = record { saved = λ _ early. absurd (omega arith) };
      contexts = λ part. elim (cases_eq p part) [
        | inl same ↦
            let Q : ℕ → Type 0 = λ q. context_in (Some p) file' frames (o + 1) q ≡ context_in (Some p) file frames o q in
            subst Q same (of_held p file' frames (o + 1) ∙ coming file frame o low high whole.file_is ready ∙ sym (of_held p file frames o))
        | inr other ↦ of_other p part file' frames (o + 1) other ∙ sym (of_other p part file frames o other)
      ];
    }

-- before the swap each part's words are those of its frame
all_saved : (held : Option ℕ) (file : Context) (frames : List Context) (count part : ℕ) → HeldWords count file frames held → IfSome held (λ p. IsSaved 33 file (get_or frames p (fresh_context 0))) → context_in held file frames 33 part ≡ get_or frames part (fresh_context 0)
all_saved None file frames count part whole step = refl
all_saved (Some p) file frames count part whole step = elim (cases_eq p part) [
  | inl same ↦
      let frame = get_or frames p (fresh_context 0) in
      let Q : ℕ → Type 0 = λ q. context_in (Some p) file frames 33 q ≡ get_or frames q (fresh_context 0) in
      subst Q same (of_held p file frames 33 ∙ sym (blend_all file frame whole.file_is whole.frame_is) ∙ step.saved (omega arith) (omega arith))
  | inr other ↦ of_other p part file frames 33 other
]

-- after it too
none_restored : (p : ℕ) (file : Context) (frames : List Context) (part : ℕ) → IsContext file → IsContext (get_or frames p (fresh_context 0)) → context_in (Some p) (copied file (get_or frames p (fresh_context 0)) 0) frames 34 part ≡ get_or frames part (fresh_context 0)
none_restored p file frames part one ready = elim (cases_eq p part) [
  | inl same ↦
      let frame = get_or frames p (fresh_context 0) in
      let Q : ℕ → Type 0 = λ q. context_in (Some p) (copied file frame 0) frames 34 q ≡ get_or frames q (fresh_context 0) in
      subst Q same (of_held p (copied file frame 0) frames 34 ∙ restored_more 0 file frame (omega arith) one ready)
  | inr other ↦ of_other p part (copied file (get_or frames p (fresh_context 0)) 0) frames 34 other
]

keeps_swapped : (times : FrameTimes) (file : Context) (frames : List Context) (owners : List (Option ℕ)) (held next : Option ℕ) → HeldWords times.slots file frames held → IfSome next (λ part. IsContext (get_or frames part (fresh_context 0))) → InStep (state times file frames owners held next) 33 → Keeps (state times file frames owners held next) 33 (restored (swapped (state times file frames owners held next)) 0) 34
keeps_swapped times file frames owners held None whole ready step = record {
  step = tt;
  contexts = λ part. sym (all_saved held file frames times.slots part whole step);
}
keeps_swapped times file frames owners held (Some p) whole ready step = record {
  step = record { saved = λ _ early. absurd (omega arith) };
  contexts = λ part.
      none_restored p file frames part whole.file_is ready
      ∙ sym (all_saved held file frames times.slots part whole step);
}

keeps_still : (times : FrameTimes) (file : Context) (frames : List Context) (owners : List (Option ℕ)) (held next : Option ℕ) (o later : ℕ) → 66 ≤ o → (later ≡ 0) ⊎ (66 ≤ later) → Keeps (state times file frames owners held next) o (state times file frames owners held next) later
keeps_still times file frames owners None next o later past at = record { step = tt; contexts = λ part. refl }
keeps_still times file frames owners (Some p) next o later past at =
    let far : (later ≤ 33) ⊎ (66 ≤ later) = elim at [ inl none ↦ inl (omega arith) | inr high ↦ inr high ] in
    record {
      step = record { saved = λ some early. elim at [ inl none ↦ absurd (omega arith) | inr high ↦ absurd (omega arith) ] };
      contexts = λ part. ap (λ (x : Context). cond (p == part) x (get_or frames part (fresh_context 0))) (held_is later file _ far ∙ sym (held_is o file _ (inr past)));
    }

held_words : (k : KernelState) → HasWords k → HeldWords k.times.slots k.file k.frames k.held
held_words k whole = record { size = whole.count; below = whole.held_below; file_is = whole.file; frame_is = whole.held }

row_saves : (k : KernelState) (served o : ℕ) → o < 33 → HasWords k → InStep k o → Keeps k o (kernel_row k served o) (o + 1)
unfolding kernel_row
row_saves k served o low whole step =
    let within : nat_lt o 33 ≡ true = lt-ltb o 33 low in
    let P : Bool → Type 0 = λ b. Keeps k o (saved (cond b (latched k served) k) o) (o + 1) in
    let both : (b : Bool) → P b = λ b. elim b as P [
      | true ↦
          let kept = keeps_saved k.times k.file k.frames k.owners k.held (owner_at k served) o low (held_words k whole) step in
          record { step = kept.step; contexts = kept.contexts }
      | false ↦ keeps_saved k.times k.file k.frames k.owners k.held k.next o low (held_words k whole) step
    ] in
    rw within (both (o == 0))

row_swaps : (k : KernelState) (served : ℕ) → HasWords k → InStep k 33 → Keeps k 33 (kernel_row k served 33) 34
unfolding kernel_row
row_swaps k served whole step = keeps_swapped k.times k.file k.frames k.owners k.held k.next (held_words k whole) whole.next step

row_restores : (k : KernelState) (served o : ℕ) → 33 < o → o < 66 → HasWords k → Keeps k o (kernel_row k served o) (o + 1)
unfolding kernel_row
row_restores k served o low high whole =
    let past : nat_lt o 33 ≡ false = le-ltb o 33 (omega arith) in
    let within : nat_lt o 66 ≡ true = lt-ltb o 66 high in
    let other : (o == 33) ≡ false = ne_eqb o 33 (λ e. omega arith) in
    rw (past, within, other) (keeps_restored k.times k.file k.frames k.owners k.held k.next o low high (held_words k whole))

pub row_still : (k : KernelState) (served o : ℕ) → 66 ≤ o → kernel_row k served o ≡ k
unfolding kernel_row
row_still k served o high =
    let past : nat_lt o 33 ≡ false = le-ltb o 33 (omega arith) in
    let out : nat_lt o 66 ≡ false = le-ltb o 66 high in
    rw (past, out)

-- a row keeps the words of every part
pub row_keeps : (k : KernelState) (served o later : ℕ) → (later ≡ o + 1) ⊎ ((66 ≤ o) × (later ≡ 0)) → HasWords k → InStep k o → Keeps k o (kernel_row k served o) later
row_keeps k served o later at whole step = elim (cases_lt o 66) [
  | inl copying ↦
      let next : later ≡ o + 1 = elim at [ inl e ↦ e | inr past ↦ let high = past.0 in absurd (omega arith) ] in
      let P : ℕ → Type 0 = λ n. Keeps k o (kernel_row k served o) n in
      let now : P (o + 1) = elim (cases_lt o 33) [
        | inl low ↦ row_saves k served o low whole step
        | inr high ↦ elim (cases_eq o 33) [
          | inl swap ↦
              let Q : ℕ → Type 0 = λ m. InStep k m → Keeps k m (kernel_row k served m) (m + 1) in
              subst Q (sym swap) (λ (s : InStep k 33). row_swaps k served whole s) step
          | inr later ↦ row_restores k served o (omega arith) copying whole
        ]
      ] in
      subst P (sym next) now
  | inr still ↦
      let far : (later ≡ 0) ⊎ (66 ≤ later) = elim at [ inl e ↦ inr (omega arith) | inr past ↦ inl past.1 ] in
      let Q : KernelState → Type 0 = λ s. Keeps k o s later in
      subst Q (sym (row_still k served o still)) (keeps_still k.times k.file k.frames k.owners k.held k.next o later still far)
]

-- a cycle of the kernel
pub cycle_keeps : (k : KernelState) (cycle : ℕ) → IsFrame k.times → HasWords k → InStep k (offset_at k.times cycle) → Keeps k (offset_at k.times cycle) (kernel_cycle k cycle) (offset_at k.times (cycle + 1))
cycle_keeps k cycle frame whole step = row_keeps k (served_at k.times cycle) (offset_at k.times cycle) (offset_at k.times (cycle + 1)) (next_offset k.times cycle frame) whole step
