-- Accesses of a bus: how much each load and store moves, and what a bus may answer.
use Rattle.std.specs.Prelude.{◌≡◌, ℕ, ◌*◌, ◌^◌, ◌<◌, Option}
use Rattle.soc_base.specs.declared.region.Width.{Width}
use Rattle.soc_base.specs.declared.region.Width.TheVariants.{Byte, Half, Word}
use Rattle.soc_base.specs.Widths.{width_bytes}
use Rattle.rv_core.specs.declared.instr.LoadOp.{LoadOp}
use Rattle.rv_core.specs.declared.instr.LoadOp.TheVariants.{Lb, Lh, Lw, Lbu, Lhu}
use Rattle.rv_core.specs.declared.instr.StoreOp.{StoreOp}
use Rattle.rv_core.specs.declared.instr.StoreOp.TheVariants.{Sb, Sh, Sw}
use Rattle.rv_core.specs.declared.bus.Answer.{Answer}
use Rattle.rv_core.specs.declared.bus.Answer.TheVariants.{Done, Stall, Fault}

-- how much a load reads
abbrev pub load_width : LoadOp → Width
load_width Lb = Byte
load_width Lh = Half
load_width Lw = Word
load_width Lbu = Byte
load_width Lhu = Half

-- how much a store writes
abbrev pub store_width : StoreOp → Width
store_width Sb = Byte
store_width Sh = Half
store_width Sw = Word

-- a load that is done answers a value of its width: below 2 ^ 8, 2 ^ 16 or 2 ^ 32
abbrev pub IsLoaded : Width → Answer → Type 0
IsLoaded width (Done value) = value < 2 ^ (8 * width_bytes width)
IsLoaded width Stall = Unit {0}
IsLoaded width (Fault cause) = Unit {0}

-- a store that is done answers 0
abbrev pub IsStored : Answer → Type 0
IsStored (Done value) = value ≡ 0
IsStored Stall = Unit {0}
IsStored (Fault cause) = Unit {0}

-- an access that isn't done leaves the bus as it was
abbrev pub IsKeptUnlessDone : {S : Type 0} → Answer → S → S → Type 0
IsKeptUnlessDone (Done value) old new = Unit {0}
IsKeptUnlessDone Stall old new = new ≡ old
IsKeptUnlessDone (Fault cause) old new = new ≡ old

-- how a bus answers, by what it holds: the word at an address, and what a load or a store answers and
-- leaves
pub record BusMeaning (S : Type 0) : Type 0 where
  pub fetch : S → ℕ → Option ℕ
  pub load : S → ℕ → Width → Answer × S
  pub store : S → ℕ → Width → ℕ → Answer × S
