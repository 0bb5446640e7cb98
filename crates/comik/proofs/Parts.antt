-- What a part that comes, a part that leaves and a part's cycle do to the words of the others.
use Rattle.std.proofs.Common.{◌≡◌, ◌≢◌, ℕ, ◌<◌, ◌≤◌, ◌^◌, ◌==◌, Bool, true, false, cond, ◌⊎◌, List, length, get_or, slice_set, Option, Some, None, IfSome, refl, sym, subst, ap, ◌∙◌, inl, inr, arith}
use Rattle.std.proofs.lemmas.Bool.{cases_eq, eq-eqb, ne_eqb}
use Rattle.std.proofs.lemmas.List.{get_or-set_same, get_or-set_other}
use Rattle.std.proofs.lemmas.Option.{none-some, IfSome_then}
use Rattle.comik.specs.declared.context.Context.{Context}
use Rattle.comik.specs.Context.{fresh_context}
use Rattle.comik.specs.Kernel.{KernelState, IsInstalled, AreFree, least_slot, without, owner_at, has, IsKernel}
use Rattle.comik.specs.Parts.{prepared, cleared}
use Rattle.comik.specs.Switching.{held_context, context_in, context_of, IsSaved, InStep}
use Rattle.comik.proofs.Least.{least_is_in, least_below}
use Rattle.comik.proofs.Switches.{held_is, of_held, of_other}

not_held : (held : Option ℕ) (file : Context) (frames : List Context) (offset part : ℕ) → has part held ≡ false → context_in held file frames offset part ≡ get_or frames part (fresh_context 0)
not_held held file frames offset part e = rw e

same_frame : (held : Option ℕ) (file : Context) (frames : List Context) (offset other part : ℕ) (new : Context) → part ≢ other → context_in held file (slice_set frames other new) offset part ≡ context_in held file frames offset part
same_frame held file frames offset other part new apart =
    ap (λ (x : Context). cond (has part held) (held_context offset file x) x) (get_or-set_other frames other part new (fresh_context 0) apart)

-- a part's cycle changes the words of the held part alone
pub cycle_own : (k : KernelState) (file : Context) (part later : ℕ) → k.held ≡ Some part → (later ≡ 0) ⊎ (66 ≤ later) → context_of (record k { file = file }) later part ≡ file
cycle_own k file part later held at =
    let far : (later ≤ 33) ⊎ (66 ≤ later) = elim at [ inl none ↦ inl (omega arith) | inr high ↦ inr high ] in
    let P : Option ℕ → Type 0 = λ h. context_in h file k.frames later part ≡ file in
    subst P (sym held) (of_held part file k.frames later ∙ held_is later file _ far)

pub cycle_others : (k : KernelState) (file : Context) (part other offset later : ℕ) → k.held ≡ Some part → other ≢ part → context_of (record k { file = file }) later other ≡ context_of k offset other
cycle_others k file part other offset later held apart =
    let P : Option ℕ → Type 0 = λ h. context_in h file k.frames later other ≡ context_in h k.file k.frames offset other in
    subst P (sym held) (of_other part other file k.frames later (λ e. apart (sym e)) ∙ sym (of_other part other k.file k.frames offset (λ e. apart (sym e))))

-- a part that is installed isn't one that comes
pub installed_apart : (k : KernelState) (slots part : ℕ) → 0 < slots → slots < 65536 → AreFree k slots → IsInstalled k part → part ≢ least_slot slots
installed_apart k slots part some fits free installed = λ e.
    let none : owner_at k (least_slot slots) ≡ None = free (least_slot slots) (least_is_in slots some fits) in
    let one : owner_at k (least_slot slots) ≡ Some part = ap (owner_at k) (sym e) ∙ installed in
    none-some part (sym none ∙ one)

pub held_apart : (k : KernelState) (slots : ℕ) (place : Option ℕ) → 0 < slots → slots < 65536 → AreFree k slots → IfSome place (IsInstalled k) → has (least_slot slots) place ≡ false
held_apart k slots None some fits free installed = refl
held_apart k slots (Some part) some fits free installed = ne_eqb part (least_slot slots) (installed_apart k slots part some fits free installed)

-- a part that comes: its own words, and those of the others
pub prepared_own : (k : KernelState) (slots entry offset : ℕ) → 0 < slots → slots < 65536 → slots < 2 ^ k.times.slots → AreFree k slots → IsKernel k → context_of (prepared k slots entry) offset (least_slot slots) ≡ fresh_context entry
prepared_own k slots entry offset some fits below free kernel =
    let low = least_below slots k.times.slots some fits below in
    let inside : least_slot slots < length k.frames = omega (arith, kernel.frames) in
    not_held k.held k.file (slice_set k.frames (least_slot slots) (fresh_context entry)) offset (least_slot slots) (held_apart k slots k.held some fits free kernel.installed_held)
    ∙ get_or-set_same k.frames (least_slot slots) (fresh_context entry) (fresh_context 0) inside

pub prepared_others : (k : KernelState) (slots entry offset part : ℕ) → part ≢ least_slot slots → context_of (prepared k slots entry) offset part ≡ context_of k offset part
prepared_others k slots entry offset part apart = same_frame k.held k.file k.frames offset (least_slot slots) part (fresh_context entry) apart

step_same : (held : Option ℕ) (file : Context) (frames : List Context) (offset other : ℕ) (new : Context) → IfSome held (λ part. part ≢ other) → IfSome held (λ part. IsSaved offset file (get_or frames part (fresh_context 0))) → IfSome held (λ part. IsSaved offset file (get_or (slice_set frames other new) part (fresh_context 0)))
step_same None file frames offset other new apart step = tt
step_same (Some part) file frames offset other new apart step = subst (IsSaved offset file) (sym (get_or-set_other frames other part new (fresh_context 0) apart)) step

pub prepared_in_step : (k : KernelState) (slots entry offset : ℕ) → 0 < slots → slots < 65536 → AreFree k slots → IsKernel k → InStep k offset → InStep (prepared k slots entry) offset
prepared_in_step k slots entry offset some fits free kernel step =
    let apart = IfSome_then k.held kernel.installed_held (λ part installed. installed_apart k slots part some fits free installed) in
    step_same k.held k.file k.frames offset (least_slot slots) (fresh_context entry) apart step

-- a part that leaves
others_of : (held : Option ℕ) (file : Context) (frames : List Context) (part offset other : ℕ) → other ≢ part → context_in (without part held) (cond (has part held) (fresh_context 0) file) (slice_set frames part (fresh_context 0)) offset other ≡ context_in held file frames offset other
others_of None file frames part offset other apart = get_or-set_other frames part other (fresh_context 0) (fresh_context 0) apart
others_of (Some p) file frames part offset other apart = elim (cases_eq p part) [
  | inl same ↦
      let here : (p == part) ≡ true = eq-eqb p part same in
      let P : Bool → Type 0 = λ b. context_in (cond b None (Some p)) (cond b (fresh_context 0) file) (slice_set frames part (fresh_context 0)) offset other ≡ context_in (Some p) file frames offset other in
      subst P (sym here) (get_or-set_other frames part other (fresh_context 0) (fresh_context 0) apart ∙ sym (of_other p other file frames offset (λ e. apart (sym e ∙ same))))
  | inr differs ↦
      let there : (p == part) ≡ false = ne_eqb p part differs in
      let P : Bool → Type 0 = λ b. context_in (cond b None (Some p)) (cond b (fresh_context 0) file) (slice_set frames part (fresh_context 0)) offset other ≡ context_in (Some p) file frames offset other in
      subst P (sym there) (same_frame (Some p) file frames offset part other (fresh_context 0) apart)
]

pub cleared_others : (k : KernelState) (part offset other : ℕ) → other ≢ part → context_of (cleared k part) offset other ≡ context_of k offset other
cleared_others k part offset other apart = others_of k.held k.file k.frames part offset other apart

cleared_step : (held : Option ℕ) (file : Context) (frames : List Context) (part offset : ℕ) → IfSome held (λ p. IsSaved offset file (get_or frames p (fresh_context 0))) → IfSome (without part held) (λ p. IsSaved offset (cond (has part held) (fresh_context 0) file) (get_or (slice_set frames part (fresh_context 0)) p (fresh_context 0)))
cleared_step None file frames part offset step = tt
cleared_step (Some p) file frames part offset step =
    let P : Bool → Type 0 = λ b. IfSome (cond b None (Some p)) (λ q. IsSaved offset (cond b (fresh_context 0) file) (get_or (slice_set frames part (fresh_context 0)) q (fresh_context 0))) in
    elim (cases_eq p part) [
      | inl same ↦ let here : (p == part) ≡ true = eq-eqb p part same in subst P (sym here) tt
      | inr differs ↦
          let there : (p == part) ≡ false = ne_eqb p part differs in
          subst P (sym there) (subst (IsSaved offset file) (sym (get_or-set_other frames part p (fresh_context 0) (fresh_context 0) differs)) step)
    ]

pub cleared_in_step : (k : KernelState) (part offset : ℕ) → InStep k offset → InStep (cleared k part) offset
cleared_in_step k part offset step = cleared_step k.held k.file k.frames part offset step
