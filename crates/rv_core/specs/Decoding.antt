-- The instruction that a word stands for: the inverse of the table, by the fields in turn.
use Rattle.std.specs.Prelude.{ℕ, ◌==◌, ◌&&◌, ◌||◌, if◌then◌else◌, pos, Option, Some, None}
use Rattle.std.specs.Option.{option_map}
use Rattle.rv_core.specs.declared.fields.Fields.{Fields}
use Rattle.rv_core.specs.declared.instr.Instr.{Instr}
use Rattle.rv_core.specs.declared.instr.Instr.TheVariants.{Lui, Auipc, Jal, Jalr, Branch, Load, Store, OpImm, Op, Fence, Ecall, Ebreak}
use Rattle.rv_core.specs.declared.instr.BranchOp.{BranchOp}
use Rattle.rv_core.specs.declared.instr.BranchOp.TheVariants.{Beq, Bne, Blt, Bge, Bltu, Bgeu}
use Rattle.rv_core.specs.declared.instr.LoadOp.{LoadOp}
use Rattle.rv_core.specs.declared.instr.LoadOp.TheVariants.{Lb, Lh, Lw, Lbu, Lhu}
use Rattle.rv_core.specs.declared.instr.StoreOp.{StoreOp}
use Rattle.rv_core.specs.declared.instr.StoreOp.TheVariants.{Sb, Sh, Sw}
use Rattle.rv_core.specs.declared.instr.ImmOp.{ImmOp}
use Rattle.rv_core.specs.declared.instr.ImmOp.TheVariants.{Addi, Slti, Sltiu, Xori, Ori, Andi, Slli, Srli, Srai}
use Rattle.rv_core.specs.declared.instr.RegOp.{RegOp}
use Rattle.rv_core.specs.declared.instr.RegOp.TheVariants.{Add, Sub, Sll, Slt, Sltu, Xor, Srl, Sra, Or, And, Mul, Mulh, Mulhsu, Mulhu, Div, Divu, Rem, Remu}
use Rattle.rv_core.specs.Formats.{fields_at, i_imm, s_imm, b_imm, u_imm, j_imm, fence_rest}

-- the operation that a funct3 names, at the opcodes for branches, loads and stores
abbrev pub branch_op_at : ℕ → Option BranchOp
branch_op_at funct3 =
    if funct3 == 0b000 then Some Beq
    else if funct3 == 0b001 then Some Bne
    else if funct3 == 0b100 then Some Blt
    else if funct3 == 0b101 then Some Bge
    else if funct3 == 0b110 then Some Bltu
    else if funct3 == 0b111 then Some Bgeu
    else None

-- at the opcode for loads
abbrev pub load_op_at : ℕ → Option LoadOp
load_op_at funct3 =
    if funct3 == 0b000 then Some Lb
    else if funct3 == 0b001 then Some Lh
    else if funct3 == 0b010 then Some Lw
    else if funct3 == 0b100 then Some Lbu
    else if funct3 == 0b101 then Some Lhu
    else None

-- at the opcode for stores
abbrev pub store_op_at : ℕ → Option StoreOp
store_op_at funct3 =
    if funct3 == 0b000 then Some Sb
    else if funct3 == 0b001 then Some Sh
    else if funct3 == 0b010 then Some Sw
    else None

-- operations on two registers, where funct7 is 0000000, 0100000 or 0000001
abbrev pub base_op_at : ℕ → Option RegOp
base_op_at funct3 =
    if funct3 == 0b000 then Some Add
    else if funct3 == 0b001 then Some Sll
    else if funct3 == 0b010 then Some Slt
    else if funct3 == 0b011 then Some Sltu
    else if funct3 == 0b100 then Some Xor
    else if funct3 == 0b101 then Some Srl
    else if funct3 == 0b110 then Some Or
    else if funct3 == 0b111 then Some And
    else None

-- where funct7 is 0100000
abbrev pub other_op_at : ℕ → Option RegOp
other_op_at funct3 =
    if funct3 == 0b000 then Some Sub
    else if funct3 == 0b101 then Some Sra
    else None

-- where funct7 is 0000001
abbrev pub product_op_at : ℕ → Option RegOp
product_op_at funct3 =
    if funct3 == 0b000 then Some Mul
    else if funct3 == 0b001 then Some Mulh
    else if funct3 == 0b010 then Some Mulhsu
    else if funct3 == 0b011 then Some Mulhu
    else if funct3 == 0b100 then Some Div
    else if funct3 == 0b101 then Some Divu
    else if funct3 == 0b110 then Some Rem
    else if funct3 == 0b111 then Some Remu
    else None

-- the operation on two registers that a funct3 and a funct7 name
abbrev pub reg_op_at : ℕ → ℕ → Option RegOp
reg_op_at funct3 funct7 =
    if funct7 == 0b0000000 then base_op_at funct3
    else if funct7 == 0b0100000 then other_op_at funct3
    else if funct7 == 0b0000001 then product_op_at funct3
    else None

-- operations with a constant of 12 bits
abbrev pub imm_op_at : ℕ → Option ImmOp
imm_op_at funct3 =
    if funct3 == 0b000 then Some Addi
    else if funct3 == 0b010 then Some Slti
    else if funct3 == 0b011 then Some Sltiu
    else if funct3 == 0b100 then Some Xori
    else if funct3 == 0b110 then Some Ori
    else if funct3 == 0b111 then Some Andi
    else None

-- shifts by a constant
abbrev pub shift_op_at : ℕ → ℕ → Option ImmOp
shift_op_at funct3 funct7 =
    if funct3 == 0b001 then (if funct7 == 0b0000000 then Some Slli else None)
    else if funct3 == 0b101 then
    (if funct7 == 0b0000000 then Some Srli else if funct7 == 0b0100000 then Some Srai else None)
    else None

-- an operation whose constant is a shift
abbrev pub decoded_shift : Fields → Option Instr
decoded_shift f = option_map (λ op. OpImm op f.rd f.rs1 (pos f.rs2)) (shift_op_at f.funct3 f.funct7)

-- an operation whose constant has 12 bits
abbrev pub decoded_constant : Fields → Option Instr
decoded_constant f = option_map (λ op. OpImm op f.rd f.rs1 (i_imm f)) (imm_op_at f.funct3)

-- an operation on a register and a constant
abbrev pub decoded_imm : Fields → Option Instr
decoded_imm f = if f.funct3 == 0b001 || f.funct3 == 0b101 then decoded_shift f else decoded_constant f

-- ECALL and EBREAK are single words
abbrev pub decoded_system : Fields → Option Instr
decoded_system f =
    if f.funct3 == 0 && f.funct7 == 0 && f.rd == 0 && f.rs1 == 0
    then (if f.rs2 == 0 then Some Ecall else if f.rs2 == 1 then Some Ebreak else None)
    else None

-- the instruction with these fields, if there is one
abbrev pub decoded : Fields → Option Instr
decoded f =
    if f.opcode == 0b0110111 then Some (Lui f.rd (u_imm f))
    else if f.opcode == 0b0010111 then Some (Auipc f.rd (u_imm f))
    else if f.opcode == 0b1101111 then Some (Jal f.rd (j_imm f))
    else if f.opcode == 0b1100111 then (if f.funct3 == 0b000 then Some (Jalr f.rd f.rs1 (i_imm f)) else None)
    else if f.opcode == 0b1100011 then option_map (λ op. Branch op f.rs1 f.rs2 (b_imm f)) (branch_op_at f.funct3)
    else if f.opcode == 0b0000011 then option_map (λ op. Load op f.rd f.rs1 (i_imm f)) (load_op_at f.funct3)
    else if f.opcode == 0b0100011 then option_map (λ op. Store op f.rs1 f.rs2 (s_imm f)) (store_op_at f.funct3)
    else if f.opcode == 0b0010011 then decoded_imm f
    else if f.opcode == 0b0110011 then option_map (λ op. Op op f.rd f.rs1 f.rs2) (reg_op_at f.funct3 f.funct7)
    else if f.opcode == 0b0001111 then (if f.funct3 == 0b000 then Some (Fence (fence_rest f)) else None)
    else if f.opcode == 0b1110011 then decoded_system f
    else None

-- the instruction that a word stands for, if there is one
unfoldable pub decode_of : ℕ → Option Instr
decode_of word = decoded (fields_at word)
