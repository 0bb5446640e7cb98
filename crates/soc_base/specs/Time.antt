-- Time on a tile, in cycles from 0: slots of the network, and instances of the microkernel's frame
-- (CoMik: a fixed number of microkernel cycles, then a partition's cycles, for each partition slot
-- in turn).
use Rattle.std.specs.Prelude.{ℕ, Bool, ◌+◌, ◌*◌, ◌/◌, ◌%◌, ◌≤◌, ◌&&◌, List, nat_le, ◌==◌}
use Rattle.std.specs.List.{list_any}
use Rattle.std.specs.Int.{div_ceil}

-- s is the least slot of `len` cycles that begins at or after the cycle: with slots of 8 cycles,
-- slot 1 for cycles 1 to 8
pub record IsSlotUp (cycle len s : ℕ) : Type 0 where
  pub reaches : cycle ≤ s * len
  pub least : (t : ℕ) → cycle ≤ t * len → s ≤ t

-- that slot
abbrev pub slot_up_of : ℕ → ℕ → ℕ
slot_up_of cycle len = div_ceil cycle len

-- the frame by which partitions share a core: each instance has `kernel` microkernel cycles and then
-- `partition` cycles for one of the partition slots 0 to `slots - 1`
pub record FrameTimes : Type 0 where
  pub kernel : ℕ
  pub partition : ℕ
  pub slots : ℕ

-- the cycles of an instance
abbrev pub instance_cycles : FrameTimes → ℕ
instance_cycles f = f.kernel + f.partition

-- the instance that a cycle lies in, counted from 0
abbrev pub instance_at : FrameTimes → ℕ → ℕ
instance_at f cycle = cycle / instance_cycles f

-- how far a cycle is from its instance's beginning
abbrev pub offset_at : FrameTimes → ℕ → ℕ
offset_at f cycle = cycle % instance_cycles f

-- the partition slot that is served in a cycle
abbrev pub served_at : FrameTimes → ℕ → ℕ
served_at f cycle = instance_at f cycle % f.slots

-- whether a number stands in a list
abbrev pub is_among : ℕ → List ℕ → Bool
is_among n ns = list_any (λ m. m == n) ns

-- whether a part with these partition slots, of an application that was granted from cycle `start`
-- on, runs in a cycle: past the microkernel's cycles, in an instance of its own that began at the
-- start or later. With 72 and 56 cycles and two slots, a part with slot 0 that starts at cycle 8
-- misses instance 0 and runs in cycles 328 to 383.
abbrev pub runs : FrameTimes → List ℕ → ℕ → ℕ → Bool
runs f slots start cycle = nat_le f.kernel (offset_at f cycle)
    && is_among (served_at f cycle) slots
    && nat_le start (instance_at f cycle * instance_cycles f)
