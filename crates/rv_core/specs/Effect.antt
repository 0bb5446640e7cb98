-- What one instruction does to a hart. An instruction asks its bus for at most one access
-- (`request_of`); the bus answers; the rest follows from the registers, the instruction and that
-- answer (`effect_of`). So the same two functions say what an instruction does on any bus.
use Rattle.std.specs.Prelude.{ℕ, Bool, ◌*◌, ◌/◌, ◌%◌, ◌==◌, ℤ, if◌then◌else◌}
use Rattle.soc_base.specs.declared.cause.Cause.TheVariants.{Target, Break}
use Rattle.soc_base.specs.declared.region.Width.{Width}
use Rattle.rv_core.specs.declared.instr.Instr.{Instr}
use Rattle.rv_core.specs.declared.instr.Instr.TheVariants.{Lui, Auipc, Jal, Jalr, Branch, Load, Store, OpImm, Op, Fence, Ecall, Ebreak}
use Rattle.rv_core.specs.declared.instr.LoadOp.{LoadOp}
use Rattle.rv_core.specs.declared.bus.Answer.{Answer}
use Rattle.rv_core.specs.declared.bus.Answer.TheVariants.{Done, Stall as NotNow, Fault as Refused}
use Rattle.rv_core.specs.declared.execution.Outcome.{Outcome}
use Rattle.rv_core.specs.declared.execution.Outcome.TheVariants.{Next, Stall, Halt, Fault}
use Rattle.rv_core.specs.Registers.{Registers, register_at, with_register}
use Rattle.rv_core.specs.Arithmetic.{word_of, wrapped_sum, reg_value, imm_value, is_taken, loaded_value, stored_value}
use Rattle.rv_core.specs.Access.{BusMeaning, load_width, store_width}

-- the access that an instruction asks for
pub data Request : Type 0 where
  Nothing : Request
  LoadFrom : ℕ → Width → Request
  StoreTo : ℕ → Width → ℕ → Request

-- the address of a load or a store
abbrev pub address_of : Registers → ℕ → ℤ → ℕ
address_of r rs1 imm = wrapped_sum (register_at r rs1) (word_of imm)

-- that address with bit 0 cleared, as JALR takes it
abbrev pub even_address_of : Registers → ℕ → ℤ → ℕ
even_address_of r rs1 imm = address_of r rs1 imm / 2 * 2

-- the access of an instruction, by the registers before it
unfoldable pub request_of : Registers → Instr → Request
request_of r (Load op rd rs1 imm) = LoadFrom (address_of r rs1 imm) (load_width op)
request_of r (Store op rs1 rs2 imm) =
    StoreTo (address_of r rs1 imm) (store_width op) (stored_value op (register_at r rs2))
request_of r (Lui rd imm) = Nothing
request_of r (Auipc rd imm) = Nothing
request_of r (Jal rd imm) = Nothing
request_of r (Jalr rd rs1 imm) = Nothing
request_of r (Branch op rs1 rs2 imm) = Nothing
request_of r (OpImm op rd rs1 imm) = Nothing
request_of r (Op op rd rs1 rs2) = Nothing
request_of r (Fence rest) = Nothing
request_of r Ecall = Nothing
request_of r Ebreak = Nothing

-- what a bus answers to a request, and its state after it; no request is done at once
abbrev pub ask : {S : Type 0} → BusMeaning S → Request → S → Answer × S
ask bus Nothing s = (Done 0, s)
ask bus (LoadFrom addr width) s = bus.load s addr width
ask bus (StoreTo addr width value) s = bus.store s addr width value

-- how a step ends, and the registers after it
pub record Effect : Type 0 where
  pub outcome : Outcome
  pub regs : Registers

-- the step ends without a next instruction, and changes no register
abbrev pub ends : Registers → Outcome → Effect
ends r outcome = record { outcome = outcome; regs = r }

-- to the next instruction
abbrev pub next : Registers → Effect
next r = record { outcome = Next; regs = record r { pc = wrapped_sum r.pc 4 } }

-- rd takes a value, and to the next instruction
abbrev pub set : Registers → ℕ → ℕ → Effect
set r rd value = next (with_register r rd value)

-- to a target, which is to be a multiple of 4
abbrev pub jump : Registers → ℕ → Effect
jump r target =
    if target % 4 == 0 then record { outcome = Next; regs = record r { pc = target } } else ends r (Fault Target)

-- the same, and rd takes the address of the next instruction
abbrev pub link : Registers → ℕ → ℕ → Effect
link r rd target =
    if target % 4 == 0
    then record { outcome = Next; regs = record (with_register r rd (wrapped_sum r.pc 4)) { pc = target } }
    else ends r (Fault Target)

-- to a target where the branch is taken, else to the next instruction
abbrev pub branch : Registers → Bool → ℕ → Effect
branch r taken target = if taken then jump r target else next r

-- after a load: rd takes the value, where the bus gave one
abbrev pub after_load : Registers → LoadOp → ℕ → Answer → Effect
after_load r op rd (Done value) = set r rd (loaded_value op value)
after_load r op rd NotNow = ends r Stall
after_load r op rd (Refused cause) = ends r (Fault cause)

-- after a store
abbrev pub after_store : Registers → Answer → Effect
after_store r (Done value) = next r
after_store r NotNow = ends r Stall
after_store r (Refused cause) = ends r (Fault cause)

-- what an instruction does, where the bus gives this answer to its request
unfoldable pub effect_of : Registers → Instr → Answer → Effect
effect_of r (Lui rd imm) answer = set r rd imm
effect_of r (Auipc rd imm) answer = set r rd (wrapped_sum r.pc imm)
effect_of r (Jal rd imm) answer = link r rd (wrapped_sum r.pc (word_of imm))
effect_of r (Jalr rd rs1 imm) answer = link r rd (even_address_of r rs1 imm)
effect_of r (Branch op rs1 rs2 imm) answer =
    branch r (is_taken op (register_at r rs1) (register_at r rs2)) (wrapped_sum r.pc (word_of imm))
effect_of r (Load op rd rs1 imm) answer = after_load r op rd answer
effect_of r (Store op rs1 rs2 imm) answer = after_store r answer
effect_of r (OpImm op rd rs1 imm) answer = set r rd (imm_value op (register_at r rs1) (word_of imm))
effect_of r (Op op rd rs1 rs2) answer = set r rd (reg_value op (register_at r rs1) (register_at r rs2))
effect_of r (Fence rest) answer = next r
effect_of r Ecall answer = ends r (Halt (register_at r 10))
effect_of r Ebreak answer = ends r (Fault Break)

-- how a step ends on a bus, the registers after it, and what the bus then holds
pub record StepEnd (S : Type 0) : Type 0 where
  pub outcome : Outcome
  pub regs : Registers
  pub bus : S

-- one step: the instruction's request, the bus's answer, and the effect by it
abbrev pub step_of : {S : Type 0} → BusMeaning S → Registers → S → Instr → StepEnd S
step_of bus r s instr =
    let asked = ask bus (request_of r instr) s in
    let effect = effect_of r instr asked.0 in
    record { outcome = effect.outcome; regs = effect.regs; bus = asked.1 }
