-- Where the words of a part are while they are copied, one a cycle, and what is in step.
use Rattle.std.specs.Prelude.{◌≡◌, ◌≢◌, ℕ, ◌+◌, ◌-◌, ◌<◌, ◌≤◌, ◌==◌, ◌&&◌, nat_lt, List, length, get_or, take, drop, ◌++◌, if◌then◌else◌, Option, IfSome, All}
use Rattle.soc_base.specs.Time.{offset_at}
use Rattle.comik.specs.declared.context.Context.{Context}
use Rattle.comik.specs.Context.{fresh_context, IsContext}
use Rattle.comik.specs.Kernel.{KernelState, has, IsBelow, IsKernel, frame_at}

-- the words below number n of one context, and from n on those of another
abbrev pub blend : ℕ → Context → Context → Context
blend n front back = record {
  regs = record {
    pc = if n == 0 then back.regs.pc else front.regs.pc;
    x = take n front.regs.x ++ drop n back.regs.x;
  };
  left = if nat_lt n 33 then back.left else front.left;
}

-- the words of the part that is held, before the cycle at an offset: the register file's, but at
-- offsets 34 to 65 the words that have not come yet are still in the frame alone
abbrev pub held_context : ℕ → Context → Context → Context
held_context offset file frame =
    if nat_lt 33 offset && nat_lt offset 66 then blend (offset - 33) file frame else file

-- the words of a part: those of its frame, where it isn't held
abbrev pub context_in : Option ℕ → Context → List Context → ℕ → ℕ → Context
context_in held file frames offset part =
    let frame = get_or frames part (fresh_context 0) in
    if has part held then held_context offset file frame else frame

-- the words of a part of a kernel, before the cycle at an offset
abbrev pub context_of : KernelState → ℕ → ℕ → Context
context_of k offset part = context_in k.held k.file k.frames offset part

-- at an offset of 1 to 33 the words below it have been saved
pub record IsSaved (offset : ℕ) (file frame : Context) : Type 0 where
  pub saved : 0 < offset → offset ≤ 33 → blend offset file frame ≡ frame

-- the kernel is in step before the cycle at an offset
abbrev pub InStep : KernelState → ℕ → Type 0
InStep k offset = IfSome k.held (λ part. IsSaved offset k.file (frame_at k part))

-- from one state to another, before the cycles at two offsets: every part has the words that it had, and
-- the kernel is in step
pub record Keeps (k : KernelState) (offset : ℕ) (after : KernelState) (later : ℕ) : Type 0 where
  pub step : InStep after later
  pub contexts : (part : ℕ) → context_of after later part ≡ context_of k offset part

-- over a cycle: a kernel that was in step before it is in step before the next, and no part's words change
abbrev pub KeepsOver : KernelState → ℕ → KernelState → Type 0
KeepsOver k cycle after =
    let offset = offset_at k.times cycle in
    InStep k offset → Keeps k offset after (offset_at k.times (cycle + 1))

-- whatever the offset, a kernel that was in step is in step still
abbrev pub StaysInStep : KernelState → KernelState → Type 0
StaysInStep k after = (offset : ℕ) → InStep k offset → InStep after offset

-- whatever the offset, every other part has the words that it had
abbrev pub LeavesOthers : KernelState → ℕ → KernelState → Type 0
LeavesOthers k part after = (offset other : ℕ) → other ≢ part → context_of after offset other ≡ context_of k offset other

-- the register file and the frames of the parts that are held and next are contexts
pub record HasWords (k : KernelState) : Type 0 where
  pub count : length k.frames ≡ k.times.slots
  pub held_below : IsBelow k.times.slots k.held
  pub next_below : IsBelow k.times.slots k.next
  pub file : IsContext k.file
  pub held : IfSome k.held (λ part. IsContext (frame_at k part))
  pub next : IfSome k.next (λ part. IsContext (frame_at k part))

-- a kernel all of whose words are contexts
pub record IsWhole (k : KernelState) : Type 0 where
  pub kernel : IsKernel k
  pub file : IsContext k.file
  pub contexts : All IsContext k.frames
