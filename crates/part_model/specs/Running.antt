-- One running cycle of a part, on any bus: the word at pc is fetched, its cost is counted down, and in
-- the last cycle of its cost the instruction has its effect.
use Rattle.std.specs.Prelude.{ℕ, ◌-◌, ◌==◌, nat_lt, if◌then◌else◌, Option, Some, None, Result, Ok, Err}
use Rattle.soc_base.specs.declared.cause.Cause.{Cause}
use Rattle.soc_base.specs.declared.cause.Cause.TheVariants.{Illegal, Fetch}
use Rattle.platform_model.specs.declared.costs.Costs.{Costs}
use Rattle.rv_core.specs.declared.instr.Instr.{Instr}
use Rattle.rv_core.specs.declared.execution.Outcome.{Outcome}
use Rattle.rv_core.specs.declared.execution.Outcome.TheVariants.{Next, Stall, Halt, Fault}
use Rattle.rv_core.specs.Registers.{Registers}
use Rattle.rv_core.specs.Decoding.{decode_of}
use Rattle.rv_core.specs.Access.{BusMeaning}
use Rattle.rv_core.specs.Effect.{step_of}
use Rattle.cycle_table.specs.Cost.{cost_of}

-- the end of a running cycle: what the instruction came to, or none where it needs more cycles; the
-- registers; how many cycles the instruction needs still; and what the bus is left as
pub record CycleEnd (S : Type 0) : Type 0 where
  pub outcome : Option Outcome
  pub regs : Registers
  pub left : ℕ
  pub bus : S

-- an instruction that stalled is tried again in the next running cycle
abbrev pub left_after : Outcome → ℕ
left_after Next = 0
left_after Stall = 1
left_after (Halt code) = 0
left_after (Fault cause) = 0

-- the cycle in which an instruction came to an outcome
abbrev pub ended : {S : Type 0} → Outcome → Registers → S → CycleEnd S
ended outcome regs bus = record { outcome = Some outcome; regs = regs; left = left_after outcome; bus = bus }

-- the effect of an instruction
abbrev pub executed : {S : Type 0} → BusMeaning S → Registers → S → Instr → CycleEnd S
executed meaning regs bus instr = let step = step_of meaning regs bus instr in ended step.outcome step.regs step.bus

-- what stands at pc: an instruction, or the cause for which there is none
abbrev pub decoded_or_illegal : Option Instr → Result Instr Cause
decoded_or_illegal None = Err Illegal
decoded_or_illegal (Some instr) = Ok instr

-- the same by the word there, if there is one
abbrev pub instr_of : Option ℕ → Result Instr Cause
instr_of None = Err Fetch
instr_of (Some word) = decoded_or_illegal (decode_of word)

-- the effect of what stands at pc
abbrev pub effect_with : {S : Type 0} → BusMeaning S → Registers → S → Result Instr Cause → CycleEnd S
effect_with meaning regs bus (Err cause) = ended (Fault cause) regs bus
effect_with meaning regs bus (Ok instr) = executed meaning regs bus instr

-- the effect of the word at pc
abbrev pub effect_at : {S : Type 0} → BusMeaning S → Registers → S → Option ℕ → CycleEnd S
effect_at meaning regs bus word = effect_with meaning regs bus (instr_of word)

-- how many cycles the instruction at pc needs, this one counted: those that are left of it, or its
-- cost where it begins in this cycle
abbrev pub due_of : Costs → Registers → ℕ → Option ℕ → ℕ
due_of costs regs left word = if left == 0 then cost_of costs regs word else left

-- a cycle after which the instruction needs more
abbrev pub charged : {S : Type 0} → ℕ → Registers → S → CycleEnd S
charged left regs bus = record { outcome = None; regs = regs; left = left; bus = bus }

-- the cycle in which the instruction at pc needs `due` cycles, this one counted
abbrev pub cycle_with : {S : Type 0} → BusMeaning S → ℕ → Registers → S → Option ℕ → CycleEnd S
cycle_with meaning due regs bus word =
    if nat_lt 1 due then charged (due - 1) regs bus else effect_at meaning regs bus word

-- one running cycle
unfoldable pub running_cycle : {S : Type 0} → BusMeaning S → Costs → Registers → ℕ → S → CycleEnd S
running_cycle meaning costs regs left bus =
    let word = meaning.fetch bus regs.pc in
    cycle_with meaning (due_of costs regs left word) regs bus word
