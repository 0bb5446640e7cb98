-- What the calls of a kernel keep: the facts of its type, and that its words are contexts.
use Rattle.std.proofs.Common.{◌≡◌, ℕ, ◌-◌, ◌<◌, ◌^◌, ◌==◌, Bool, true, false, cond, ◌&&◌, nat_lt, List, length, map, replicate, get_or, slice_set, Option, Some, None, IfSome, refl, sym, subst, ap, ◌∙◌, inl, inr, arith}
use Rattle.std.specs.Int.{bit_at}
use Rattle.std.proofs.lemmas.Bool.{cases_eq, cases_lt, cases_Bool, eq-eqb, ne_eqb, eqb-true, lt-ltb, and_from, and_parts}
use Rattle.std.proofs.lemmas.List.{get_or_past, get_or-replicate, length-replicate, length-set, length-map}
use Rattle.std.proofs.lemmas.List.Elements.{All-set, All-get_or, All-replicate}
use Rattle.std.proofs.lemmas.Option.{none-some, IfSome_then}
use Rattle.soc_base.specs.Time.{FrameTimes}
use Rattle.comik.specs.declared.context.Context.{Context}
use Rattle.comik.specs.Context.{fresh_context, copied, IsContext}
use Rattle.comik.specs.Kernel.{KernelState, IsInstalled, AreFree, IsBelow, IsKernel, least_slot, owner_at, has, without, fresh_kernel}
use Rattle.comik.specs.Parts.{prepared, cleared}
use Rattle.comik.specs.Table.{latched, swapped, saved, restored, kernel_row}
use Rattle.comik.specs.Switching.{IsWhole, HasWords}
use Rattle.comik.proofs.Least.{least_is_in, least_below}
use Rattle.comik.proofs.Owners.{below_claimed, below_freed, below_without, length_claimed, claimed_at, freed_at}
use Rattle.comik.proofs.Switches.{state, context_copied, frame_whole}

-- the beginning: no slot is owned
abbrev nobody : ℕ → List (Option ℕ)
nobody count = replicate count None

pub none_at : (times : FrameTimes) (slot : ℕ) → owner_at (fresh_kernel times) slot ≡ None
none_at times slot =
    let count = times.slots in
    elim (cases_lt slot count) [
      | inl inside ↦ get_or-replicate count slot None None inside
      | inr past ↦
          let size : length (nobody count) ≡ count = length-replicate count None in
          get_or_past (nobody count) slot None (omega arith)
    ]

pub fresh_is_context : (pc : ℕ) → IsContext (fresh_context pc)
fresh_is_context pc = record { count = refl; zero = refl }

pub kernel_fresh : (times : FrameTimes) → IsKernel (fresh_kernel times)
kernel_fresh times = record {
  frames = length-replicate times.slots (fresh_context 0);
  owners = length-replicate times.slots None;
  owned = All-replicate (IsBelow times.slots) times.slots None tt;
  held = tt;
  next = tt;
  installed_owners = λ slot. subst (λ (o : Option ℕ). IfSome o (IsInstalled (fresh_kernel times))) (sym (none_at times slot)) tt;
  installed_held = tt;
  installed_next = tt;
}

pub whole_fresh : (times : FrameTimes) → IsWhole (fresh_kernel times)
whole_fresh times = record {
  kernel = kernel_fresh times;
  file = fresh_is_context 0;
  contexts = All-replicate IsContext times.slots (fresh_context 0) (fresh_is_context 0);
}

-- the owner of a slot has a number below the number of slots
pub owner_below : (k : KernelState) (served : ℕ) → IsKernel k → IsBelow k.times.slots (owner_at k served)
owner_below k served kernel = elim (cases_lt served (length k.owners)) [
  | inl inside ↦ All-get_or (IsBelow k.times.slots) k.owners served None inside kernel.owned
  | inr past ↦ subst (IsBelow k.times.slots) (sym (get_or_past k.owners served None past)) tt
]

-- the latch and the swap
pub kernel_latched : (k : KernelState) (served : ℕ) → IsKernel k → IsKernel (latched k served)
kernel_latched k served kernel = record {
  frames = kernel.frames;
  owners = kernel.owners;
  owned = kernel.owned;
  held = kernel.held;
  next = owner_below k served kernel;
  installed_owners = kernel.installed_owners;
  installed_held = kernel.installed_held;
  installed_next = kernel.installed_owners served;
}

pub kernel_swapped : (k : KernelState) → IsKernel k → IsKernel (swapped k)
kernel_swapped k kernel = record {
  frames = kernel.frames;
  owners = kernel.owners;
  owned = kernel.owned;
  held = kernel.next;
  next = kernel.next;
  installed_owners = kernel.installed_owners;
  installed_held = kernel.installed_next;
  installed_next = kernel.installed_next;
}

-- other words, of as many frames
pub kernel_words : (k : KernelState) (file : Context) (frames : List Context) → length frames ≡ length k.frames → IsKernel k → IsKernel (record k { file = file; frames = frames })
kernel_words k file frames same kernel = record {
  frames = same ∙ kernel.frames;
  owners = kernel.owners;
  owned = kernel.owned;
  held = kernel.held;
  next = kernel.next;
  installed_owners = kernel.installed_owners;
  installed_held = kernel.installed_held;
  installed_next = kernel.installed_next;
}

-- a word that is copied
saved_whole : (times : FrameTimes) (file : Context) (frames : List Context) (owners : List (Option ℕ)) (held next : Option ℕ) (n : ℕ) → IsWhole (state times file frames owners held next) → IsWhole (saved (state times file frames owners held next) n)
saved_whole times file frames owners None next n whole = whole
saved_whole times file frames owners (Some p) next n whole =
    let k = state times file frames owners (Some p) next in
    let frame = get_or frames p (fresh_context 0) in
    let ready = frame_whole frames p times.slots whole.kernel.frames whole.kernel.held whole.contexts in
    record {
      kernel = kernel_words k file (slice_set frames p (copied frame file n)) (length-set frames p (copied frame file n)) whole.kernel;
      file = whole.file;
      contexts = All-set IsContext frames p (copied frame file n) (context_copied frame file n ready) whole.contexts;
    }

restored_whole : (times : FrameTimes) (file : Context) (frames : List Context) (owners : List (Option ℕ)) (held next : Option ℕ) (n : ℕ) → IsWhole (state times file frames owners held next) → IsWhole (restored (state times file frames owners held next) n)
restored_whole times file frames owners None next n whole = whole
restored_whole times file frames owners (Some p) next n whole =
    let k = state times file frames owners (Some p) next in
    let frame = get_or frames p (fresh_context 0) in
    record {
      kernel = kernel_words k (copied file frame n) frames refl whole.kernel;
      file = context_copied file frame n whole.file;
      contexts = whole.contexts;
    }

whole_latched : (k : KernelState) (served : ℕ) → IsWhole k → IsWhole (latched k served)
whole_latched k served whole = record { kernel = kernel_latched k served whole.kernel; file = whole.file; contexts = whole.contexts }

whole_swapped : (k : KernelState) → IsWhole k → IsWhole (swapped k)
whole_swapped k whole = record { kernel = kernel_swapped k whole.kernel; file = whole.file; contexts = whole.contexts }

-- a row
pub row_whole : (k : KernelState) (served o : ℕ) → IsWhole k → IsWhole (kernel_row k served o)
unfolding kernel_row
row_whole k served o whole =
    let one : (b : Bool) → IsWhole (saved (cond b (latched k served) k) o) = λ b. elim b as (λ b. IsWhole (saved (cond b (latched k served) k) o)) [
      | true ↦ saved_whole k.times k.file k.frames k.owners k.held (owner_at k served) o (whole_latched k served whole)
      | false ↦ saved_whole k.times k.file k.frames k.owners k.held k.next o whole
    ] in
    let two : (b : Bool) → IsWhole (restored (cond b (swapped k) k) (o - 33)) = λ b. elim b as (λ b. IsWhole (restored (cond b (swapped k) k) (o - 33))) [
      | true ↦ restored_whole k.times k.file k.frames k.owners k.next k.next (o - 33) (whole_swapped k whole)
      | false ↦ restored_whole k.times k.file k.frames k.owners k.held k.next (o - 33) whole
    ] in
    let last : (b : Bool) → IsWhole (cond b (restored (cond (o == 33) (swapped k) k) (o - 33)) k) = λ b. elim b as (λ b. IsWhole (cond b (restored (cond (o == 33) (swapped k) k) (o - 33)) k)) [ true ↦ two (o == 33) | false ↦ whole ] in
    let first : (b : Bool) → IsWhole (cond b (saved (cond (o == 0) (latched k served) k) o) (cond (nat_lt o 66) (restored (cond (o == 33) (swapped k) k) (o - 33)) k)) = λ b. elim b as (λ b. IsWhole (cond b (saved (cond (o == 0) (latched k served) k) o) (cond (nat_lt o 66) (restored (cond (o == 33) (swapped k) k) (o - 33)) k))) [ true ↦ one (o == 0) | false ↦ last (nat_lt o 66) ] in
    first (nat_lt o 33)

-- such a kernel has the words that a row copies
pub whole_words : (k : KernelState) → IsWhole k → HasWords k
whole_words k whole =
    let kernel = whole.kernel in
    record {
      count = kernel.frames;
      held_below = kernel.held;
      next_below = kernel.next;
      file = whole.file;
      held = IfSome_then k.held kernel.held (λ p low. frame_whole k.frames p k.times.slots kernel.frames low whole.contexts);
      next = IfSome_then k.next kernel.next (λ p low. frame_whole k.frames p k.times.slots kernel.frames low whole.contexts);
    }

-- a part that comes
pub still_installed : (k : KernelState) (slots entry part : ℕ) → AreFree k slots → IsInstalled k part → IsInstalled (prepared k slots entry) part
still_installed k slots entry part free installed = elim (cases_Bool (nat_lt part (length k.owners) && bit_at slots part == 1)) [
  | inl taken ↦
      let bit : bit_at slots part ≡ 1 = eqb-true (bit_at slots part) 1 (and_parts (nat_lt part (length k.owners)) (bit_at slots part == 1) taken).1 in
      absurd (none-some part (sym (free part bit) ∙ installed))
  | inr left ↦ claimed_at slots (least_slot slots) k.owners part ∙ ap (λ b. cond b (Some (least_slot slots)) (owner_at k part)) left ∙ installed
]

pub now_installed : (k : KernelState) (slots entry : ℕ) → 0 < slots → slots < 65536 → slots < 2 ^ k.times.slots → IsKernel k → IsInstalled (prepared k slots entry) (least_slot slots)
now_installed k slots entry some fits below kernel =
    let part = least_slot slots in
    let low = least_below slots k.times.slots some fits below in
    let inside : nat_lt part (length k.owners) ≡ true = lt-ltb part (length k.owners) (omega (arith, kernel.owners)) in
    let bit : (bit_at slots part == 1) ≡ true = eq-eqb (bit_at slots part) 1 (least_is_in slots some fits) in
    claimed_at slots part k.owners part ∙ ap (λ b. cond b (Some part) (owner_at k part)) (and_from (nat_lt part (length k.owners)) (bit_at slots part == 1) inside bit)

pub kernel_prepared : (k : KernelState) (slots entry : ℕ) → 0 < slots → slots < 65536 → slots < 2 ^ k.times.slots → AreFree k slots → IsKernel k → IsKernel (prepared k slots entry)
kernel_prepared k slots entry some fits below free kernel =
    let part = least_slot slots in
    let after = prepared k slots entry in
    let low = least_below slots k.times.slots some fits below in
    let stays : (q : ℕ) → IsInstalled k q → IsInstalled after q = λ q installed. still_installed k slots entry q free installed in
    let P : Option ℕ → Type 0 = λ o. IfSome o (IsInstalled after) in
    let either : (slot : ℕ) (b : Bool) → P (cond b (Some part) (owner_at k slot)) = λ slot b. elim b as (λ b. P (cond b (Some part) (owner_at k slot))) [
      | true ↦ now_installed k slots entry some fits below kernel
      | false ↦ IfSome_then (owner_at k slot) (kernel.installed_owners slot) stays
    ] in
    record {
      frames = length-set k.frames part (fresh_context entry) ∙ kernel.frames;
      owners = length_claimed slots part k.owners ∙ kernel.owners;
      held = kernel.held;
      next = kernel.next;
      owned = below_claimed k.times.slots slots part k.owners low kernel.owned;
      installed_owners = λ slot. subst P (sym (claimed_at slots part k.owners slot)) (either slot (nat_lt slot (length k.owners) && bit_at slots slot == 1));
      installed_held = IfSome_then k.held kernel.installed_held stays;
      installed_next = IfSome_then k.next kernel.installed_next stays;
    }

without_kept : (k : KernelState) (part : ℕ) (place : Option ℕ) → IfSome place (IsInstalled k) → IfSome (without part place) (IsInstalled (cleared k part))
without_kept k part None installed = tt
without_kept k part (Some q) installed =
    let P : Bool → Type 0 = λ b. IfSome (cond b None (Some q)) (IsInstalled (cleared k part)) in
    elim (cases_eq q part) [
      | inl same ↦ subst P (sym (eq-eqb q part same)) tt
      | inr differs ↦
          let there : (q == part) ≡ false = ne_eqb q part differs in
          let kept : without part (Some q) ≡ Some q = ap (λ b. cond b None (Some q)) there in
          subst P (sym there) (freed_at part k.owners q ∙ ap (without part) installed ∙ kept)
    ]

pub kernel_cleared : (k : KernelState) (part : ℕ) → IsKernel k → IsKernel (cleared k part)
kernel_cleared k part kernel =
    let P : Option ℕ → Type 0 = λ o. IfSome o (IsInstalled (cleared k part)) in
    record {
      frames = length-set k.frames part (fresh_context 0) ∙ kernel.frames;
      owners = length-map k.owners (without part) ∙ kernel.owners;
      held = below_without k.times.slots part k.held kernel.held;
      next = below_without k.times.slots part k.next kernel.next;
      owned = below_freed k.times.slots part k.owners kernel.owned;
      installed_owners = λ slot. subst P (sym (freed_at part k.owners slot)) (without_kept k part (owner_at k slot) (kernel.installed_owners slot));
      installed_held = without_kept k part k.held kernel.installed_held;
      installed_next = without_kept k part k.next kernel.installed_next;
    }

-- the same, told by what each field becomes
pub kernel_left : (k : KernelState) (part i : ℕ) (file new : Context) (owners : List (Option ℕ)) (held next : Option ℕ) → owners ≡ map (without part) k.owners → held ≡ without part k.held → next ≡ without part k.next → IsKernel k → IsKernel (state k.times file (slice_set k.frames i new) owners held next)
kernel_left k part i file new owners held next os h n kernel =
    let frames = slice_set k.frames i new in
    let size : length frames ≡ length (slice_set k.frames part (fresh_context 0)) = length-set k.frames i new ∙ sym (length-set k.frames part (fresh_context 0)) in
    let one = kernel_words (cleared k part) file frames size (kernel_cleared k part kernel) in
    let two = subst (λ (xs : List (Option ℕ)). IsKernel (state k.times file frames xs (without part k.held) (without part k.next))) (sym os) one in
    let three = subst (λ (x : Option ℕ). IsKernel (state k.times file frames owners x (without part k.next))) (sym h) two in
    subst (λ (x : Option ℕ). IsKernel (state k.times file frames owners held x)) (sym n) three

pub whole_prepared : (k : KernelState) (slots entry : ℕ) → 0 < slots → slots < 65536 → slots < 2 ^ k.times.slots → AreFree k slots → IsWhole k → IsWhole (prepared k slots entry)
whole_prepared k slots entry some fits below free whole = record {
  kernel = kernel_prepared k slots entry some fits below free whole.kernel;
  file = whole.file;
  contexts = All-set IsContext k.frames (least_slot slots) (fresh_context entry) (fresh_is_context entry) whole.contexts;
}

pub whole_cleared : (k : KernelState) (part : ℕ) → IsWhole k → IsWhole (cleared k part)
whole_cleared k part whole =
    let either : (b : Bool) → IsContext (cond b (fresh_context 0) k.file) = λ b. elim b as (λ b. IsContext (cond b (fresh_context 0) k.file)) [ true ↦ fresh_is_context 0 | false ↦ whole.file ] in
    record {
      kernel = kernel_cleared k part whole.kernel;
      file = either (has part k.held);
      contexts = All-set IsContext k.frames part (fresh_context 0) (fresh_is_context 0) whole.contexts;
    }

-- another register file, as a part's cycle leaves it
pub whole_file : (k : KernelState) (file : Context) → IsContext file → IsWhole k → IsWhole (record k { file = file })
whole_file k file one whole = record { kernel = kernel_words k file k.frames refl whole.kernel; file = one; contexts = whole.contexts }
