-- What an instruction costs, in running cycles. The address of an access and the outcome of a branch
-- are judged by the registers before the instruction.
use Rattle.std.specs.Prelude.{ℕ, nat_lt, if◌then◌else◌, Option}
use Rattle.std.specs.Option.{option_map_or, option_and_then}
use Rattle.platform_model.specs.declared.costs.Costs.{Costs}
use Rattle.rv_core.specs.declared.instr.Instr.{Instr}
use Rattle.rv_core.specs.declared.instr.Instr.TheVariants.{Lui, Auipc, Jal, Jalr, Branch, Load, Store, OpImm, Op, Fence, Ecall, Ebreak}
use Rattle.rv_core.specs.declared.instr.RegOp.{RegOp}
use Rattle.rv_core.specs.declared.instr.RegOp.TheVariants.{Add, Sub, Sll, Slt, Sltu, Xor, Srl, Sra, Or, And, Mul, Mulh, Mulhsu, Mulhu, Div, Divu, Rem, Remu}
use Rattle.rv_core.specs.Registers.{Registers, register_at}
use Rattle.rv_core.specs.Arithmetic.{is_taken}
use Rattle.rv_core.specs.Effect.{address_of}
use Rattle.cycle_table.specs.declared.table.TheConstants.{DEVICE_BASE}
use Rattle.rv_core.specs.Decoding.{decode_of}

-- a load or a store: `memory` below the device registers, and from there on the cost of a device,
-- whatever stands there
abbrev pub access_cost : Costs → ℕ → ℕ → ℕ
access_cost costs memory addr = if nat_lt addr DEVICE_BASE then memory else costs.device

-- an operation on two registers
abbrev pub reg_op_cost : Costs → RegOp → ℕ
reg_op_cost costs Mul = costs.mul
reg_op_cost costs Mulh = costs.mul
reg_op_cost costs Mulhsu = costs.mul
reg_op_cost costs Mulhu = costs.mul
reg_op_cost costs Div = costs.div
reg_op_cost costs Divu = costs.div
reg_op_cost costs Rem = costs.div
reg_op_cost costs Remu = costs.div
reg_op_cost costs Add = costs.integer
reg_op_cost costs Sub = costs.integer
reg_op_cost costs Sll = costs.integer
reg_op_cost costs Slt = costs.integer
reg_op_cost costs Sltu = costs.integer
reg_op_cost costs Xor = costs.integer
reg_op_cost costs Srl = costs.integer
reg_op_cost costs Sra = costs.integer
reg_op_cost costs Or = costs.integer
reg_op_cost costs And = costs.integer

-- the cost of an instruction
abbrev pub cost_of_instr : Costs → Registers → Instr → ℕ
cost_of_instr costs regs (Lui rd imm) = costs.integer
cost_of_instr costs regs (Auipc rd imm) = costs.integer
cost_of_instr costs regs (Jal rd imm) = costs.jump
cost_of_instr costs regs (Jalr rd rs1 imm) = costs.jump
cost_of_instr costs regs (Branch op rs1 rs2 imm) =
    if is_taken op (register_at regs rs1) (register_at regs rs2) then costs.taken else costs.untaken
cost_of_instr costs regs (Load op rd rs1 imm) = access_cost costs costs.load (address_of regs rs1 imm)
cost_of_instr costs regs (Store op rs1 rs2 imm) = access_cost costs costs.store (address_of regs rs1 imm)
cost_of_instr costs regs (OpImm op rd rs1 imm) = costs.integer
cost_of_instr costs regs (Op op rd rs1 rs2) = reg_op_cost costs op
cost_of_instr costs regs (Fence rest) = costs.system
cost_of_instr costs regs Ecall = costs.system
cost_of_instr costs regs Ebreak = costs.system

-- the cost of the word at pc: 1 where there is none or it is no instruction
unfoldable pub cost_of : Costs → Registers → Option ℕ → ℕ
cost_of costs regs word = option_map_or (cost_of_instr costs regs) (option_and_then decode_of word) 1
