-- What the microkernel of a tile keeps. The number of a part is the least of its partition slots.
use Rattle.std.specs.Prelude.{◌≡◌, ℕ, ◌<◌, ◌==◌, Bool, false, List, length, get_or, replicate, if◌then◌else◌, Option, Some, None, IfSome, All}
use Rattle.std.specs.Int.{bit_at, trailing_zeros, w16}
use Rattle.soc_base.specs.Time.{FrameTimes}
use Rattle.comik.specs.declared.context.Context.{Context}
use Rattle.comik.specs.Context.{fresh_context}

-- the frame's times; the register file; the context frames; for each partition slot the part that owns
-- it; the part whose words are in the register file; and the latched part
pub record KernelState : Type 0 where
  pub times : FrameTimes
  pub file : Context
  pub frames : List Context
  pub owners : List (Option ℕ)
  pub held : Option ℕ
  pub next : Option ℕ

-- a kernel in which no part is installed and every word is 0
abbrev pub fresh_kernel : FrameTimes → KernelState
fresh_kernel times = record {
  times = times;
  file = fresh_context 0;
  frames = replicate times.slots (fresh_context 0);
  owners = replicate times.slots None;
  held = None;
  next = None;
}

-- the frame of a part
abbrev pub frame_at : KernelState → ℕ → Context
frame_at k part = get_or k.frames part (fresh_context 0)

-- the part that owns a partition slot
abbrev pub owner_at : KernelState → ℕ → Option ℕ
owner_at k slot = get_or k.owners slot None

-- the number of a part: the least of its partition slots
abbrev pub least_slot : ℕ → ℕ
least_slot slots = trailing_zeros w16 slots

-- a part is installed: it owns the slot that is its number
abbrev pub IsInstalled : KernelState → ℕ → Type 0
IsInstalled k part = owner_at k part ≡ Some part

-- no slot of a set is owned
abbrev pub AreFree : KernelState → ℕ → Type 0
AreFree k slots = (slot : ℕ) → bit_at slots slot ≡ 1 → owner_at k slot ≡ None

-- whether a place has a part
abbrev pub has : ℕ → Option ℕ → Bool
has part None = false
has part (Some other) = other == part

-- a place without a part
abbrev pub without : ℕ → Option ℕ → Option ℕ
without part None = None
without part (Some other) = if other == part then None else Some other

-- the part of a place, if there is one, has a number below a bound
abbrev pub IsBelow : ℕ → Option ℕ → Type 0
IsBelow bound place = IfSome place (λ part. part < bound)

-- so do the parts of a list of places
abbrev pub AreBelow : ℕ → List (Option ℕ) → Type 0
AreBelow bound places = All (IsBelow bound) places

-- what is true of every kernel: it has a frame and an owner for each partition slot, and the parts that
-- own slots, are held and are next are installed
pub record IsKernel (k : KernelState) : Type 0 where
  pub frames : length k.frames ≡ k.times.slots
  pub owners : length k.owners ≡ k.times.slots
  pub owned : AreBelow k.times.slots k.owners
  pub held : IsBelow k.times.slots k.held
  pub next : IsBelow k.times.slots k.next
  pub installed_owners : (slot : ℕ) → IfSome (owner_at k slot) (IsInstalled k)
  pub installed_held : IfSome k.held (IsInstalled k)
  pub installed_next : IfSome k.next (IsInstalled k)
