-- The instructions of RV32IM and their words, to be laid beside the "Instruction Set Listings" of the
-- RISC-V Unprivileged ISA: opcode, funct3, funct7, then operands.
use Rattle.std.specs.Prelude.{◌≡◌, ℕ, ◌-◌, ◌%◌, ◌^◌, ◌<◌, ℤ, pos, neg_ℤ, ◌≤ℤ◌, ◌<ℤ◌}
use Rattle.rv_core.specs.declared.fields.Fields.{Fields}
use Rattle.rv_core.specs.declared.instr.Instr.{Instr}
use Rattle.rv_core.specs.declared.instr.Instr.TheVariants.{Lui, Auipc, Jal, Jalr, Branch, Load, Store, OpImm, Op, Fence, Ecall, Ebreak}
use Rattle.rv_core.specs.declared.instr.BranchOp.{BranchOp}
use Rattle.rv_core.specs.declared.instr.BranchOp.TheVariants.{Beq, Bne, Blt, Bge, Bltu, Bgeu}
use Rattle.rv_core.specs.declared.instr.LoadOp.{LoadOp}
use Rattle.rv_core.specs.declared.instr.LoadOp.TheVariants.{Lb, Lh, Lw, Lbu, Lhu}
use Rattle.rv_core.specs.declared.instr.StoreOp.{StoreOp}
use Rattle.rv_core.specs.declared.instr.StoreOp.TheVariants.{Sb, Sh, Sw}
use Rattle.rv_core.specs.declared.instr.ImmOp.{ImmOp}
use Rattle.rv_core.specs.declared.instr.ImmOp.TheVariants.{Addi, Slti, Sltiu, Xori, Ori, Andi, Slli, Srli, Srai}
use Rattle.rv_core.specs.declared.instr.RegOp.{RegOp}
use Rattle.rv_core.specs.declared.instr.RegOp.TheVariants.{Add, Sub, Sll, Slt, Sltu, Xor, Srl, Sra, Or, And, Mul, Mulh, Mulhsu, Mulhu, Div, Divu, Rem, Remu}
use Rattle.rv_core.specs.Arithmetic.{word_of}
use Rattle.rv_core.specs.Formats.{bits, pack, r_type, shift_type, i_type, s_type, b_type, u_type, j_type, fence_type}

-- ---- branches: opcode, funct3, then rs1, rs2 and the distance
abbrev pub branch_type : BranchOp → ℕ → ℕ → ℤ → Fields
branch_type Beq = b_type 0b1100011 0b000
branch_type Bne = b_type 0b1100011 0b001
branch_type Blt = b_type 0b1100011 0b100
branch_type Bge = b_type 0b1100011 0b101
branch_type Bltu = b_type 0b1100011 0b110
branch_type Bgeu = b_type 0b1100011 0b111

-- ---- loads: opcode, funct3, then rd, rs1 and the offset
abbrev pub load_type : LoadOp → ℕ → ℕ → ℤ → Fields
load_type Lb = i_type 0b0000011 0b000
load_type Lh = i_type 0b0000011 0b001
load_type Lw = i_type 0b0000011 0b010
load_type Lbu = i_type 0b0000011 0b100
load_type Lhu = i_type 0b0000011 0b101

-- ---- stores: opcode, funct3, then rs1, rs2 and the offset
abbrev pub store_type : StoreOp → ℕ → ℕ → ℤ → Fields
store_type Sb = s_type 0b0100011 0b000
store_type Sh = s_type 0b0100011 0b001
store_type Sw = s_type 0b0100011 0b010

-- ---- operations with a constant: opcode, funct3, at the shifts funct7, then rd, rs1 and the constant
abbrev pub imm_type : ImmOp → ℕ → ℕ → ℤ → Fields
imm_type Addi = i_type 0b0010011 0b000
imm_type Slti = i_type 0b0010011 0b010
imm_type Sltiu = i_type 0b0010011 0b011
imm_type Xori = i_type 0b0010011 0b100
imm_type Ori = i_type 0b0010011 0b110
imm_type Andi = i_type 0b0010011 0b111
imm_type Slli = shift_type 0b0010011 0b001 0b0000000
imm_type Srli = shift_type 0b0010011 0b101 0b0000000
imm_type Srai = shift_type 0b0010011 0b101 0b0100000

-- ---- operations on two registers: opcode, funct3, funct7, then rd, rs1 and rs2
abbrev pub reg_type : RegOp → ℕ → ℕ → ℕ → Fields
reg_type Add = r_type 0b0110011 0b000 0b0000000
reg_type Sub = r_type 0b0110011 0b000 0b0100000
reg_type Sll = r_type 0b0110011 0b001 0b0000000
reg_type Slt = r_type 0b0110011 0b010 0b0000000
reg_type Sltu = r_type 0b0110011 0b011 0b0000000
reg_type Xor = r_type 0b0110011 0b100 0b0000000
reg_type Srl = r_type 0b0110011 0b101 0b0000000
reg_type Sra = r_type 0b0110011 0b101 0b0100000
reg_type Or = r_type 0b0110011 0b110 0b0000000
reg_type And = r_type 0b0110011 0b111 0b0000000
reg_type Mul = r_type 0b0110011 0b000 0b0000001
reg_type Mulh = r_type 0b0110011 0b001 0b0000001
reg_type Mulhsu = r_type 0b0110011 0b010 0b0000001
reg_type Mulhu = r_type 0b0110011 0b011 0b0000001
reg_type Div = r_type 0b0110011 0b100 0b0000001
reg_type Divu = r_type 0b0110011 0b101 0b0000001
reg_type Rem = r_type 0b0110011 0b110 0b0000001
reg_type Remu = r_type 0b0110011 0b111 0b0000001

-- ---- the whole table: the fields of an instruction's word
abbrev pub fields_of : Instr → Fields
fields_of (Lui rd imm) = u_type 0b0110111 rd imm
fields_of (Auipc rd imm) = u_type 0b0010111 rd imm
fields_of (Jal rd imm) = j_type 0b1101111 rd imm
fields_of (Jalr rd rs1 imm) = i_type 0b1100111 0b000 rd rs1 imm
fields_of (Branch op rs1 rs2 imm) = branch_type op rs1 rs2 imm
fields_of (Load op rd rs1 imm) = load_type op rd rs1 imm
fields_of (Store op rs1 rs2 imm) = store_type op rs1 rs2 imm
fields_of (OpImm op rd rs1 imm) = imm_type op rd rs1 imm
fields_of (Op op rd rs1 rs2) = reg_type op rd rs1 rs2
fields_of (Fence rest) = fence_type 0b0001111 0b000 rest
fields_of Ecall = r_type 0b1110011 0b000 0b0000000 0 0 0
fields_of Ebreak = r_type 0b1110011 0b000 0b0000000 0 0 1

-- an instruction's word
unfoldable pub encode_of : Instr → ℕ
encode_of instr = pack (fields_of instr)

-- the number of a register
abbrev pub IsRegister : ℕ → Type 0
IsRegister n = n < 32

-- a number that two's complement of so many bits can hold: of 12 bits, from -2048 to 2047
abbrev pub IsOfBits : ℕ → ℤ → Type 0
IsOfBits size imm = (neg_ℤ (pos (2 ^ (size - 1))) ≤ℤ imm) × (imm <ℤ pos (2 ^ (size - 1)))

-- a distance of whole halfwords
abbrev pub IsEven : ℤ → Type 0
IsEven imm = word_of imm % 2 ≡ 0

-- a word whose low 12 bits are 0
abbrev pub IsUpper : ℕ → Type 0
IsUpper imm = (imm < 2 ^ 32) × (bits imm 11 0 ≡ 0)

-- a word whose opcode and funct3 are 0
abbrev pub IsFenceRest : ℕ → Type 0
IsFenceRest rest = (rest < 2 ^ 32) × (bits rest 6 0 ≡ 0) × (bits rest 14 12 ≡ 0)

-- the distance of a shift
abbrev pub IsShift : ℤ → Type 0
IsShift imm = (pos 0 ≤ℤ imm) × (imm <ℤ pos 32)

-- the constants of an operation with a constant: 0 to 31 at the shifts, else 12 bits
abbrev pub IsConstant : ImmOp → ℤ → Type 0
IsConstant Slli imm = IsShift imm
IsConstant Srli imm = IsShift imm
IsConstant Srai imm = IsShift imm
IsConstant Addi imm = IsOfBits 12 imm
IsConstant Slti imm = IsOfBits 12 imm
IsConstant Sltiu imm = IsOfBits 12 imm
IsConstant Xori imm = IsOfBits 12 imm
IsConstant Ori imm = IsOfBits 12 imm
IsConstant Andi imm = IsOfBits 12 imm

-- an instruction of the table: each register and immediate is in the range that its format can hold
abbrev pub IsInRange : Instr → Type 0
IsInRange (Lui rd imm) = IsRegister rd × IsUpper imm
IsInRange (Auipc rd imm) = IsRegister rd × IsUpper imm
IsInRange (Jal rd imm) = IsRegister rd × IsOfBits 21 imm × IsEven imm
IsInRange (Jalr rd rs1 imm) = IsRegister rd × IsRegister rs1 × IsOfBits 12 imm
IsInRange (Branch op rs1 rs2 imm) = IsRegister rs1 × IsRegister rs2 × IsOfBits 13 imm × IsEven imm
IsInRange (Load op rd rs1 imm) = IsRegister rd × IsRegister rs1 × IsOfBits 12 imm
IsInRange (Store op rs1 rs2 imm) = IsRegister rs1 × IsRegister rs2 × IsOfBits 12 imm
IsInRange (OpImm op rd rs1 imm) = IsRegister rd × IsRegister rs1 × IsConstant op imm
IsInRange (Op op rd rs1 rs2) = IsRegister rd × IsRegister rs1 × IsRegister rs2
IsInRange (Fence rest) = IsFenceRest rest
IsInRange Ecall = Unit {0}
IsInRange Ebreak = Unit {0}
