-- The microkernel's table: what it does at each offset of an instance (CoMik: a switch takes a fixed
-- number of cycles, whoever leaves and whoever comes).
use Rattle.std.specs.Prelude.{ℕ, ◌-◌, ◌==◌, nat_lt, slice_set, if◌then◌else◌, Option, Some, None}
use Rattle.soc_base.specs.Time.{offset_at, served_at}
use Rattle.soc_base.specs.Steps.{after_steps}
use Rattle.comik.specs.Context.{copied}
use Rattle.comik.specs.Kernel.{KernelState, owner_at, frame_at}

-- offset 0: the part that owns the slot that is served is the next
abbrev pub latched : KernelState → ℕ → KernelState
latched k served = record k { next = owner_at k served }

-- offset 33: the next part is held
abbrev pub swapped : KernelState → KernelState
swapped k = record k { held = k.next }

-- word n of the register file goes to the frame of the part that is held
abbrev pub saved_for : KernelState → ℕ → Option ℕ → KernelState
saved_for k n None = k
saved_for k n (Some part) = record k { frames = slice_set k.frames part (copied (frame_at k part) k.file n) }

-- the same for the part that is held, if one is
abbrev pub saved : KernelState → ℕ → KernelState
saved k n = saved_for k n k.held

-- word n of the frame of the part that is held goes to the register file
abbrev pub restored_for : KernelState → ℕ → Option ℕ → KernelState
restored_for k n None = k
restored_for k n (Some part) = record k { file = copied k.file (frame_at k part) n }

-- the same for the part that is held, if one is
abbrev pub restored : KernelState → ℕ → KernelState
restored k n = restored_for k n k.held

-- n words, from one number on, are saved or restored
abbrev pub saved_words : KernelState → ℕ → ℕ → KernelState
saved_words k first n = after_steps (λ at k. saved k at) first n k

-- likewise n words are restored
abbrev pub restored_words : KernelState → ℕ → ℕ → KernelState
restored_words k first n = after_steps (λ at k. restored k at) first n k

-- what the kernel does at an offset of an instance that serves a partition slot: the latch at 0, the
-- words saved at 0 to 32, the swap at 33, the words restored at 33 to 65, and nothing from 66 on
unfoldable pub kernel_row : KernelState → ℕ → ℕ → KernelState
kernel_row k served offset =
    if nat_lt offset 33 then saved (if offset == 0 then latched k served else k) offset
    else if nat_lt offset 66 then restored (if offset == 33 then swapped k else k) (offset - 33)
    else k

-- what it does at so many offsets of one instance, one after the other
abbrev pub kernel_rows : KernelState → ℕ → ℕ → ℕ → KernelState
kernel_rows k served offset count = after_steps (λ at k. kernel_row k served at) offset count k

-- what it does in a cycle
abbrev pub kernel_cycle : KernelState → ℕ → KernelState
kernel_cycle k cycle = kernel_row k (served_at k.times cycle) (offset_at k.times cycle)
