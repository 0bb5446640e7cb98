-- Which part the kernel holds, told by offsets: nothing that happened in earlier instances is needed.
use Rattle.std.specs.Prelude.{◌≡◌, ℕ, ◌*◌, ◌%◌, ◌<◌, ◌≤◌, nat_le, List, get_or, if◌then◌else◌, Option, Some, None, IfSome}
use Rattle.soc_base.specs.Time.{FrameTimes, instance_cycles, instance_at, offset_at}
use Rattle.comik.specs.Kernel.{KernelState}

-- a part, where it was installed by a cycle: `starts` tells the cycle before which each was
abbrev pub if_began : (ℕ → ℕ) → ℕ → Option ℕ → Option ℕ
if_began starts cycle None = None
if_began starts cycle (Some part) = if nat_le (starts part) cycle then Some part else None

-- the part that an instance is for: the owner of the slot that it serves, where it was installed by the
-- instance's beginning
abbrev pub part_of_instance : FrameTimes → List (Option ℕ) → (ℕ → ℕ) → ℕ → Option ℕ
part_of_instance times owners starts instance =
    if_began starts (instance * instance_cycles times) (get_or owners (instance % times.slots) None)

-- before a cycle: from offset 1 on that part is next, from offset 34 on it is held
pub record InTurn (times : FrameTimes) (owners : List (Option ℕ)) (held next : Option ℕ) (starts : ℕ → ℕ) (cycle : ℕ) : Type 0 where
  pub next_is : 0 < offset_at times cycle → next ≡ part_of_instance times owners starts (instance_at times cycle)
  pub held_is : 33 < offset_at times cycle → held ≡ part_of_instance times owners starts (instance_at times cycle)
  pub begun : (slot : ℕ) → IfSome (get_or owners slot None) (λ part. starts part ≤ cycle)

-- the same of a kernel
abbrev pub TurnOf : KernelState → (ℕ → ℕ) → ℕ → Type 0
TurnOf k starts cycle = InTurn k.times k.owners k.held k.next starts cycle
