-- The instruction formats R, I, S, B, U and J: the fields of a word, and the immediates in them.
use Rattle.std.specs.Prelude.{ℕ, ◌+◌, ◌-◌, ◌*◌, ◌/◌, ◌%◌, ◌^◌, ◌<◌, nat_lt, if◌then◌else◌, ℤ, pos, ◌-ℤ◌}
use Rattle.rv_core.specs.declared.fields.Fields.{Fields}
use Rattle.rv_core.specs.Arithmetic.{word_of}

-- the bits of a word from `high` down to `low`, as a number
abbrev pub bits : ℕ → ℕ → ℕ → ℕ
bits word high low = word / 2 ^ low % 2 ^ (high + 1 - low)

-- the fields of a word, named as in the R format
abbrev pub fields_at : ℕ → Fields
fields_at word = record {
  opcode = bits word 6 0;
  rd = bits word 11 7;
  funct3 = bits word 14 12;
  rs1 = bits word 19 15;
  rs2 = bits word 24 20;
  funct7 = bits word 31 25;
}

-- the word that has these fields
abbrev pub pack : Fields → ℕ
pack f = f.opcode + f.rd * 2 ^ 7 + f.funct3 * 2 ^ 12 + f.rs1 * 2 ^ 15 + f.rs2 * 2 ^ 20 + f.funct7 * 2 ^ 25

-- ---- the fields of an instruction, by its format; an immediate is taken apart as its word

-- two source registers, and no immediate
abbrev pub r_type : ℕ → ℕ → ℕ → ℕ → ℕ → ℕ → Fields
r_type opcode funct3 funct7 rd rs1 rs2 =
    record { opcode = opcode; rd = rd; funct3 = funct3; rs1 = rs1; rs2 = rs2; funct7 = funct7 }

-- a shift by a constant has the format R, with the constant in the place of rs2
abbrev pub shift_type : ℕ → ℕ → ℕ → ℕ → ℕ → ℤ → Fields
shift_type opcode funct3 funct7 rd rs1 imm = r_type opcode funct3 funct7 rd rs1 (word_of imm)

-- imm[11:0] in bits 31 to 20
abbrev pub i_type : ℕ → ℕ → ℕ → ℕ → ℤ → Fields
i_type opcode funct3 rd rs1 imm =
    r_type opcode funct3 (bits (word_of imm) 11 5) rd rs1 (bits (word_of imm) 4 0)

-- imm[11:5] in bits 31 to 25, imm[4:0] in bits 11 to 7
abbrev pub s_type : ℕ → ℕ → ℕ → ℕ → ℤ → Fields
s_type opcode funct3 rs1 rs2 imm =
    r_type opcode funct3 (bits (word_of imm) 11 5) (bits (word_of imm) 4 0) rs1 rs2

-- imm[12|10:5] in bits 31 to 25, imm[4:1|11] in bits 11 to 7
abbrev pub b_type : ℕ → ℕ → ℕ → ℕ → ℤ → Fields
b_type opcode funct3 rs1 rs2 imm =
    r_type opcode funct3
    (bits (word_of imm) 12 12 * 2 ^ 6 + bits (word_of imm) 10 5)
    (bits (word_of imm) 4 1 * 2 + bits (word_of imm) 11 11) rs1 rs2

-- imm[31:12] in bits 31 to 12
abbrev pub u_type : ℕ → ℕ → ℕ → Fields
u_type opcode rd imm = r_type opcode (bits imm 14 12) (bits imm 31 25) rd (bits imm 19 15) (bits imm 24 20)

-- imm[20|10:1|11|19:12] in bits 31 to 12
abbrev pub j_type : ℕ → ℕ → ℤ → Fields
j_type opcode rd imm =
    r_type opcode (bits (word_of imm) 14 12)
    (bits (word_of imm) 20 20 * 2 ^ 6 + bits (word_of imm) 10 5) rd
    (bits (word_of imm) 19 15)
    (bits (word_of imm) 4 1 * 2 + bits (word_of imm) 11 11)

-- FENCE: the opcode, and all else from `rest`
abbrev pub fence_type : ℕ → ℕ → ℕ → Fields
fence_type opcode funct3 rest =
    r_type opcode funct3 (bits rest 31 25) (bits rest 11 7) (bits rest 19 15) (bits rest 24 20)

-- ---- the immediates of fields

-- a number of so many bits, in two's complement: 0xfff of 12 bits is -1
abbrev pub signed_of_bits : ℕ → ℕ → ℤ
signed_of_bits size n = if nat_lt n (2 ^ (size - 1)) then pos n else (pos n -ℤ pos (2 ^ size))

-- of format I
abbrev pub i_imm : Fields → ℤ
i_imm f = signed_of_bits 12 (f.funct7 * 2 ^ 5 + f.rs2)

-- of format S
abbrev pub s_imm : Fields → ℤ
s_imm f = signed_of_bits 12 (f.funct7 * 2 ^ 5 + f.rd)

-- of format B, in bytes
abbrev pub b_imm : Fields → ℤ
b_imm f = signed_of_bits 13
    (bits f.funct7 6 6 * 2 ^ 12 + bits f.rd 0 0 * 2 ^ 11 + bits f.funct7 5 0 * 2 ^ 5 + bits f.rd 4 1 * 2)

-- of format U, as a word whose low 12 bits are 0
abbrev pub u_imm : Fields → ℕ
u_imm f = f.funct7 * 2 ^ 25 + f.rs2 * 2 ^ 20 + f.rs1 * 2 ^ 15 + f.funct3 * 2 ^ 12

-- of format J, in bytes
abbrev pub j_imm : Fields → ℤ
j_imm f = signed_of_bits 21
    (bits f.funct7 6 6 * 2 ^ 20 + f.rs1 * 2 ^ 15 + f.funct3 * 2 ^ 12 + bits f.rs2 0 0 * 2 ^ 11
    + bits f.funct7 5 0 * 2 ^ 5 + bits f.rs2 4 1 * 2)

-- a FENCE's word with 0 in place of its opcode and funct3
abbrev pub fence_rest : Fields → ℕ
fence_rest f = f.rd * 2 ^ 7 + f.rs1 * 2 ^ 15 + f.rs2 * 2 ^ 20 + f.funct7 * 2 ^ 25

-- each field fits its place
pub record IsFields (f : Fields) : Type 0 where
  pub opcode : f.opcode < 2 ^ 7
  pub rd : f.rd < 2 ^ 5
  pub funct3 : f.funct3 < 2 ^ 3
  pub rs1 : f.rs1 < 2 ^ 5
  pub rs2 : f.rs2 < 2 ^ 5
  pub funct7 : f.funct7 < 2 ^ 7
