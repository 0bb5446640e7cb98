-- How a part comes to a microkernel, and how it leaves.
use Rattle.std.specs.Prelude.{ℕ, ◌==◌, List, length, slice_set, map, if◌then◌else◌, Option, Some}
use Rattle.std.specs.Int.{bit_at}
use Rattle.soc_base.specs.Steps.{after_steps}
use Rattle.comik.specs.Context.{fresh_context}
use Rattle.comik.specs.Kernel.{KernelState, least_slot, without, has}

-- a part owns a slot, if it is in its set
abbrev pub claimed_slot : ℕ → ℕ → ℕ → List (Option ℕ) → List (Option ℕ)
claimed_slot slots part slot owners = if bit_at slots slot == 1 then slice_set owners slot (Some part) else owners

-- a part owns those of the slots that are in its set
abbrev pub claimed : ℕ → ℕ → List (Option ℕ) → List (Option ℕ)
claimed slots part owners = after_steps (claimed_slot slots part) 0 (length owners) owners

-- a part is installed with its slots and its entry: it owns the slots, and its frame has pc at the
-- entry and every other word 0
abbrev pub prepared : KernelState → ℕ → ℕ → KernelState
prepared k slots entry = record k {
  owners = claimed slots (least_slot slots) k.owners;
  frames = slice_set k.frames (least_slot slots) (fresh_context entry);
}

-- a part is taken out: it owns no slot and is neither next nor held, its frame is zeroed, and the
-- register file too where it was held
abbrev pub cleared : KernelState → ℕ → KernelState
cleared k part = record k {
  owners = map (without part) k.owners;
  frames = slice_set k.frames part (fresh_context 0);
  next = without part k.next;
  held = without part k.held;
  file = if has part k.held then fresh_context 0 else k.file;
}
