-- What the instructions compute. A word of 32 bits is a number below 2 ^ 32; `signed` is the number
-- that it stands for in two's complement, and `word_of` goes back.
use Rattle.std.specs.Prelude.{ℕ, Bool, not, ◌+◌, ◌-◌, ◌*◌, ◌/◌, ◌%◌, ◌^◌, ◌==◌, nat_lt, if◌then◌else◌, ℤ, pos, ◌*ℤ◌, int_lt, int_div, int_rem, bit_and, bit_or, bit_xor}
use Rattle.std.specs.Int.{w8, w16, w32, w64, cast_signed, cast_unsigned, int_shr}
use Rattle.rv_core.specs.declared.instr.BranchOp.{BranchOp}
use Rattle.rv_core.specs.declared.instr.BranchOp.TheVariants.{Beq, Bne, Blt, Bge, Bltu, Bgeu}
use Rattle.rv_core.specs.declared.instr.LoadOp.{LoadOp}
use Rattle.rv_core.specs.declared.instr.LoadOp.TheVariants.{Lb, Lh, Lw, Lbu, Lhu}
use Rattle.rv_core.specs.declared.instr.StoreOp.{StoreOp}
use Rattle.rv_core.specs.declared.instr.StoreOp.TheVariants.{Sb, Sh, Sw}
use Rattle.rv_core.specs.declared.instr.ImmOp.{ImmOp}
use Rattle.rv_core.specs.declared.instr.ImmOp.TheVariants.{Addi, Slti, Sltiu, Xori, Ori, Andi, Slli, Srli, Srai}
use Rattle.rv_core.specs.declared.instr.RegOp.{RegOp}
use Rattle.rv_core.specs.declared.instr.RegOp.TheVariants.{Add, Sub, Sll, Slt, Sltu, Xor, Srl, Sra, Or, And, Mul, Mulh, Mulhsu, Mulhu, Div, Divu, Rem, Remu}

-- the number that a word stands for in two's complement
abbrev pub signed : ℕ → ℤ
signed word = cast_signed w32 word

-- the word that stands for a number
abbrev pub word_of : ℤ → ℕ
word_of number = cast_unsigned w32 number

-- sum and difference wrap
abbrev pub wrapped_sum : ℕ → ℕ → ℕ
wrapped_sum a b = (a + b) % 2 ^ 32

-- wraps as the sum does: 0 less 1 is 0xffffffff
abbrev pub wrapped_difference : ℕ → ℕ → ℕ
wrapped_difference a b = (a + (2 ^ 32 - b)) % 2 ^ 32

-- whether a word is below another, as signed numbers
abbrev pub is_less_signed : ℕ → ℕ → Bool
is_less_signed a b = int_lt (signed a) (signed b)

-- 1 for true, and 0 for false
abbrev pub flag_of : Bool → ℕ
flag_of b = if b then 1 else 0

-- a shift goes by the low five bits of the second operand
abbrev pub shifted_left : ℕ → ℕ → ℕ
shifted_left a b = a * 2 ^ (b % 32) % 2 ^ 32

-- zeros come in from the left
abbrev pub shifted_right : ℕ → ℕ → ℕ
shifted_right a b = a / 2 ^ (b % 32)

-- the places that become free take copies of the sign: -5 shifted by 1 is -3
abbrev pub shifted_right_signed : ℕ → ℕ → ℕ
shifted_right_signed a b = word_of (int_shr (signed a) (b % 32))

-- the high word of the product of two signed numbers, and of a signed and an unsigned one
abbrev pub high_product_signed : ℕ → ℕ → ℕ
high_product_signed a b = cast_unsigned w64 (signed a *ℤ signed b) / 2 ^ 32

-- the first is signed and the second is not
abbrev pub high_product_mixed : ℕ → ℕ → ℕ
high_product_mixed a b = cast_unsigned w64 (signed a *ℤ pos b) / 2 ^ 32

-- quotient and remainder round toward zero. By zero the quotient is all ones, and the remainder is
-- the dividend; -2 ^ 31 by -1 gives 2 ^ 31, whose word is that of -2 ^ 31, and the remainder 0.
abbrev pub quotient_signed : ℕ → ℕ → ℕ
quotient_signed a b = if b == 0 then 2 ^ 32 - 1 else word_of (int_div (signed a) (signed b))

-- of unsigned numbers; by 0 all bits are set
abbrev pub quotient_unsigned : ℕ → ℕ → ℕ
quotient_unsigned a b = if b == 0 then 2 ^ 32 - 1 else a / b

-- of signed numbers, with the sign of the dividend; by 0 it is the dividend
abbrev pub remainder_signed : ℕ → ℕ → ℕ
remainder_signed a b = if b == 0 then a else word_of (int_rem (signed a) (signed b))

-- of unsigned numbers; by 0 it is the dividend
abbrev pub remainder_unsigned : ℕ → ℕ → ℕ
remainder_unsigned a b = if b == 0 then a else a % b

-- what an operation on two registers gives
abbrev pub reg_value : RegOp → ℕ → ℕ → ℕ
reg_value Add a b = wrapped_sum a b
reg_value Sub a b = wrapped_difference a b
reg_value Sll a b = shifted_left a b
reg_value Slt a b = flag_of (is_less_signed a b)
reg_value Sltu a b = flag_of (nat_lt a b)
reg_value Xor a b = bit_xor a b
reg_value Srl a b = shifted_right a b
reg_value Sra a b = shifted_right_signed a b
reg_value Or a b = bit_or a b
reg_value And a b = bit_and a b
reg_value Mul a b = a * b % 2 ^ 32
reg_value Mulh a b = high_product_signed a b
reg_value Mulhsu a b = high_product_mixed a b
reg_value Mulhu a b = a * b / 2 ^ 32
reg_value Div a b = quotient_signed a b
reg_value Divu a b = quotient_unsigned a b
reg_value Rem a b = remainder_signed a b
reg_value Remu a b = remainder_unsigned a b

-- what an operation on a register and a constant gives; the constant is given as its word
abbrev pub imm_value : ImmOp → ℕ → ℕ → ℕ
imm_value Addi a b = wrapped_sum a b
imm_value Slti a b = flag_of (is_less_signed a b)
imm_value Sltiu a b = flag_of (nat_lt a b)
imm_value Xori a b = bit_xor a b
imm_value Ori a b = bit_or a b
imm_value Andi a b = bit_and a b
imm_value Slli a b = shifted_left a b
imm_value Srli a b = shifted_right a b
imm_value Srai a b = shifted_right_signed a b

-- whether a branch is taken
abbrev pub is_taken : BranchOp → ℕ → ℕ → Bool
is_taken Beq a b = a == b
is_taken Bne a b = not (a == b)
is_taken Blt a b = is_less_signed a b
is_taken Bge a b = not (is_less_signed a b)
is_taken Bltu a b = nat_lt a b
is_taken Bgeu a b = not (nat_lt a b)

-- what a load gives for the value that it reads: LB and LH extend the sign, so the byte 0xff becomes
-- 0xffffffff
abbrev pub loaded_value : LoadOp → ℕ → ℕ
loaded_value Lb n = word_of (cast_signed w8 n)
loaded_value Lh n = word_of (cast_signed w16 n)
loaded_value Lw n = n
loaded_value Lbu n = n
loaded_value Lhu n = n

-- what a store writes of a register's value
abbrev pub stored_value : StoreOp → ℕ → ℕ
stored_value Sb value = value % 2 ^ 8
stored_value Sh value = value % 2 ^ 16
stored_value Sw value = value
