-- Decoding gives back the instruction that was encoded.
use Rattle.std.proofs.Common.{◌≡◌, ℕ, ◌<◌, ◌==◌, ◌||◌, true, false, ℤ, pos, Some, refl, ap, ◌∙◌, lit<, arith}
use Rattle.std.specs.Option.{option_map}
use Rattle.std.proofs.lemmas.Int.{ints}
use Rattle.rv_core.specs.declared.fields.Fields.{Fields}
use Rattle.rv_core.specs.declared.instr.Instr.{Instr}
use Rattle.rv_core.specs.declared.instr.Instr.TheVariants.{Lui, Auipc, Jal, Jalr, Branch, Load, Store, OpImm, Op, Fence, Ecall, Ebreak}
use Rattle.rv_core.specs.declared.instr.BranchOp.{BranchOp}
use Rattle.rv_core.specs.declared.instr.BranchOp.TheVariants.{Beq, Bne, Blt, Bge, Bltu, Bgeu}
use Rattle.rv_core.specs.declared.instr.LoadOp.{LoadOp}
use Rattle.rv_core.specs.declared.instr.LoadOp.TheVariants.{Lb, Lh, Lw, Lbu, Lhu}
use Rattle.rv_core.specs.declared.instr.StoreOp.{StoreOp}
use Rattle.rv_core.specs.declared.instr.StoreOp.TheVariants.{Sb, Sh, Sw}
use Rattle.rv_core.specs.declared.instr.ImmOp.{ImmOp}
use Rattle.rv_core.specs.declared.instr.ImmOp.TheVariants.{Addi, Slti, Sltiu, Xori, Ori, Andi, Slli, Srli, Srai}
use Rattle.rv_core.specs.declared.instr.RegOp.{RegOp}
use Rattle.rv_core.specs.declared.instr.RegOp.TheVariants.{Add, Sub, Sll, Slt, Sltu, Xor, Srl, Sra, Or, And, Mul, Mulh, Mulhsu, Mulhu, Div, Divu, Rem, Remu}
use Rattle.rv_core.specs.Arithmetic.{word_of}
use Rattle.rv_core.specs.Formats.{fields_at, pack, IsFields, r_type, shift_type, i_type, s_type, b_type, u_type, j_type, fence_type, i_imm, s_imm, b_imm, u_imm, j_imm, fence_rest}
use Rattle.rv_core.specs.Table.{branch_type, load_type, store_type, imm_type, reg_type, IsOfBits, IsEven, IsUpper, IsShift, IsFenceRest, IsInRange, encode_of, fields_of}
use Rattle.rv_core.specs.Decoding.{branch_op_at, load_op_at, store_op_at, imm_op_at, shift_op_at, reg_op_at, decoded, decode_of}

-- fields that fit are read back from their word
fields_at-pack : (f : Fields) → IsFields f → fields_at (pack f) ≡ f
fields_at-pack f fit = grind (arith, fit)

-- each format gives its immediate back
i_imm-i_type : (opcode funct3 rd rs1 : ℕ) (imm : ℤ) → IsOfBits 12 imm → i_imm (i_type opcode funct3 rd rs1 imm) ≡ imm
i_imm-i_type opcode funct3 rd rs1 imm range = grind (arith, ints)

s_imm-s_type : (opcode funct3 rs1 rs2 : ℕ) (imm : ℤ) → IsOfBits 12 imm → s_imm (s_type opcode funct3 rs1 rs2 imm) ≡ imm
s_imm-s_type opcode funct3 rs1 rs2 imm range = grind (arith, ints)

b_imm-b_type : (opcode funct3 rs1 rs2 : ℕ) (imm : ℤ) → IsOfBits 13 imm → IsEven imm
    → b_imm (b_type opcode funct3 rs1 rs2 imm) ≡ imm
b_imm-b_type opcode funct3 rs1 rs2 imm range even = grind (arith, ints)

j_imm-j_type : (opcode rd : ℕ) (imm : ℤ) → IsOfBits 21 imm → IsEven imm → j_imm (j_type opcode rd imm) ≡ imm
j_imm-j_type opcode rd imm range even = grind (arith, ints)

u_imm-u_type : (opcode rd imm : ℕ) → IsUpper imm → u_imm (u_type opcode rd imm) ≡ imm
u_imm-u_type opcode rd imm range = grind arith

fence_rest-fence_type : (opcode funct3 rest : ℕ) → IsFenceRest rest → fence_rest (fence_type opcode funct3 rest) ≡ rest
fence_rest-fence_type opcode funct3 rest range = grind arith

-- fields that fit and that stand for an instruction
record StandsFor (f : Fields) (i : Instr) : Type 0 where
  fit : IsFields f
  meaning : decoded f ≡ Some i

-- the fields of each format stand for the instruction that opcode, funct3 and funct7 name
of_branch : (op : BranchOp) (funct3 rs1 rs2 : ℕ) (imm : ℤ) → branch_op_at funct3 ≡ Some op → funct3 < 8 → rs1 < 32
    → rs2 < 32 → IsOfBits 13 imm → IsEven imm → StandsFor (b_type 0b1100011 funct3 rs1 rs2 imm)
    (Branch op rs1 rs2 imm)
of_branch op funct3 rs1 rs2 imm named small in_rs1 in_rs2 range even = record {
  fit = search (arith, ints);
  meaning = ap (option_map (λ o. Branch o rs1 rs2 (b_imm (b_type 0b1100011 funct3 rs1 rs2 imm)))) named ∙ ap (λ d. Some (Branch op rs1 rs2 d)) (b_imm-b_type 0b1100011 funct3 rs1 rs2 imm range even);
}

branch_stands : (op : BranchOp) (rs1 rs2 : ℕ) (imm : ℤ) → IsInRange (Branch op rs1 rs2 imm)
    → StandsFor (branch_type op rs1 rs2 imm) (Branch op rs1 rs2 imm)
branch_stands Beq rs1 rs2 imm r = of_branch Beq 0b000 rs1 rs2 imm refl (lit< tt) r.0 r.1 r.2 r.3
branch_stands Bne rs1 rs2 imm r = of_branch Bne 0b001 rs1 rs2 imm refl (lit< tt) r.0 r.1 r.2 r.3
branch_stands Blt rs1 rs2 imm r = of_branch Blt 0b100 rs1 rs2 imm refl (lit< tt) r.0 r.1 r.2 r.3
branch_stands Bge rs1 rs2 imm r = of_branch Bge 0b101 rs1 rs2 imm refl (lit< tt) r.0 r.1 r.2 r.3
branch_stands Bltu rs1 rs2 imm r = of_branch Bltu 0b110 rs1 rs2 imm refl (lit< tt) r.0 r.1 r.2 r.3
branch_stands Bgeu rs1 rs2 imm r = of_branch Bgeu 0b111 rs1 rs2 imm refl (lit< tt) r.0 r.1 r.2 r.3

of_load : (op : LoadOp) (funct3 rd rs1 : ℕ) (imm : ℤ) → load_op_at funct3 ≡ Some op → funct3 < 8 → rd < 32
    → rs1 < 32 → IsOfBits 12 imm → StandsFor (i_type 0b0000011 funct3 rd rs1 imm) (Load op rd rs1 imm)
of_load op funct3 rd rs1 imm named small in_rd in_rs1 range = record {
  fit = search (arith, ints);
  meaning = ap (option_map (λ o. Load o rd rs1 (i_imm (i_type 0b0000011 funct3 rd rs1 imm)))) named ∙ ap (λ d. Some (Load op rd rs1 d)) (i_imm-i_type 0b0000011 funct3 rd rs1 imm range);
}

load_stands : (op : LoadOp) (rd rs1 : ℕ) (imm : ℤ) → IsInRange (Load op rd rs1 imm)
    → StandsFor (load_type op rd rs1 imm) (Load op rd rs1 imm)
load_stands Lb rd rs1 imm r = of_load Lb 0b000 rd rs1 imm refl (lit< tt) r.0 r.1 r.2
load_stands Lh rd rs1 imm r = of_load Lh 0b001 rd rs1 imm refl (lit< tt) r.0 r.1 r.2
load_stands Lw rd rs1 imm r = of_load Lw 0b010 rd rs1 imm refl (lit< tt) r.0 r.1 r.2
load_stands Lbu rd rs1 imm r = of_load Lbu 0b100 rd rs1 imm refl (lit< tt) r.0 r.1 r.2
load_stands Lhu rd rs1 imm r = of_load Lhu 0b101 rd rs1 imm refl (lit< tt) r.0 r.1 r.2

of_store : (op : StoreOp) (funct3 rs1 rs2 : ℕ) (imm : ℤ) → store_op_at funct3 ≡ Some op → funct3 < 8 → rs1 < 32
    → rs2 < 32 → IsOfBits 12 imm → StandsFor (s_type 0b0100011 funct3 rs1 rs2 imm) (Store op rs1 rs2 imm)
of_store op funct3 rs1 rs2 imm named small in_rs1 in_rs2 range = record {
  fit = search (arith, ints);
  meaning = ap (option_map (λ o. Store o rs1 rs2 (s_imm (s_type 0b0100011 funct3 rs1 rs2 imm)))) named ∙ ap (λ d. Some (Store op rs1 rs2 d)) (s_imm-s_type 0b0100011 funct3 rs1 rs2 imm range);
}

store_stands : (op : StoreOp) (rs1 rs2 : ℕ) (imm : ℤ) → IsInRange (Store op rs1 rs2 imm)
    → StandsFor (store_type op rs1 rs2 imm) (Store op rs1 rs2 imm)
store_stands Sb rs1 rs2 imm r = of_store Sb 0b000 rs1 rs2 imm refl (lit< tt) r.0 r.1 r.2
store_stands Sh rs1 rs2 imm r = of_store Sh 0b001 rs1 rs2 imm refl (lit< tt) r.0 r.1 r.2
store_stands Sw rs1 rs2 imm r = of_store Sw 0b010 rs1 rs2 imm refl (lit< tt) r.0 r.1 r.2

of_imm : (op : ImmOp) (funct3 rd rs1 : ℕ) (imm : ℤ) → (funct3 == 0b001 || funct3 == 0b101) ≡ false
    → imm_op_at funct3 ≡ Some op → funct3 < 8 → rd < 32 → rs1 < 32 → IsOfBits 12 imm
    → StandsFor (i_type 0b0010011 funct3 rd rs1 imm) (OpImm op rd rs1 imm)
of_imm op funct3 rd rs1 imm other named small in_rd in_rs1 range = record {
  fit = search (arith, ints);
  meaning = rw other (ap (option_map (λ o. OpImm o rd rs1 (i_imm (i_type 0b0010011 funct3 rd rs1 imm)))) named ∙ ap (λ d. Some (OpImm op rd rs1 d)) (i_imm-i_type 0b0010011 funct3 rd rs1 imm range));
}

of_shift : (op : ImmOp) (funct3 funct7 rd rs1 : ℕ) (imm : ℤ) → (funct3 == 0b001 || funct3 == 0b101) ≡ true
    → shift_op_at funct3 funct7 ≡ Some op → funct3 < 8 → funct7 < 128 → rd < 32 → rs1 < 32 → IsShift imm
    → StandsFor (shift_type 0b0010011 funct3 funct7 rd rs1 imm) (OpImm op rd rs1 imm)
of_shift op funct3 funct7 rd rs1 imm shift named small small7 in_rd in_rs1 range =
    let back : pos (word_of imm) ≡ imm = grind (arith, ints) in
    record {
      fit = search (arith, ints);
      meaning = rw shift (ap (option_map (λ o. OpImm o rd rs1 (pos (word_of imm)))) named ∙ ap (λ d. Some (OpImm op rd rs1 d)) back);
    }

imm_stands : (op : ImmOp) (rd rs1 : ℕ) (imm : ℤ) → IsInRange (OpImm op rd rs1 imm)
    → StandsFor (imm_type op rd rs1 imm) (OpImm op rd rs1 imm)
imm_stands Addi rd rs1 imm r = of_imm Addi 0b000 rd rs1 imm refl refl (lit< tt) r.0 r.1 r.2
imm_stands Slti rd rs1 imm r = of_imm Slti 0b010 rd rs1 imm refl refl (lit< tt) r.0 r.1 r.2
imm_stands Sltiu rd rs1 imm r = of_imm Sltiu 0b011 rd rs1 imm refl refl (lit< tt) r.0 r.1 r.2
imm_stands Xori rd rs1 imm r = of_imm Xori 0b100 rd rs1 imm refl refl (lit< tt) r.0 r.1 r.2
imm_stands Ori rd rs1 imm r = of_imm Ori 0b110 rd rs1 imm refl refl (lit< tt) r.0 r.1 r.2
imm_stands Andi rd rs1 imm r = of_imm Andi 0b111 rd rs1 imm refl refl (lit< tt) r.0 r.1 r.2
imm_stands Slli rd rs1 imm r = of_shift Slli 0b001 0b0000000 rd rs1 imm refl refl (lit< tt) (lit< tt) r.0 r.1 r.2
imm_stands Srli rd rs1 imm r = of_shift Srli 0b101 0b0000000 rd rs1 imm refl refl (lit< tt) (lit< tt) r.0 r.1 r.2
imm_stands Srai rd rs1 imm r = of_shift Srai 0b101 0b0100000 rd rs1 imm refl refl (lit< tt) (lit< tt) r.0 r.1 r.2

of_reg : (op : RegOp) (funct3 funct7 rd rs1 rs2 : ℕ) → reg_op_at funct3 funct7 ≡ Some op → funct3 < 8 → funct7 < 128
    → rd < 32 → rs1 < 32 → rs2 < 32 → StandsFor (r_type 0b0110011 funct3 funct7 rd rs1 rs2) (Op op rd rs1 rs2)
of_reg op funct3 funct7 rd rs1 rs2 named small small7 in_rd in_rs1 in_rs2 = record {
  fit = search arith;
  meaning = ap (option_map (λ o. Op o rd rs1 rs2)) named;
}

reg_stands : (op : RegOp) (rd rs1 rs2 : ℕ) → IsInRange (Op op rd rs1 rs2) → StandsFor (reg_type op rd rs1 rs2)
    (Op op rd rs1 rs2)
reg_stands Add rd rs1 rs2 r = of_reg Add 0b000 0b0000000 rd rs1 rs2 refl (lit< tt) (lit< tt) r.0 r.1 r.2
reg_stands Sub rd rs1 rs2 r = of_reg Sub 0b000 0b0100000 rd rs1 rs2 refl (lit< tt) (lit< tt) r.0 r.1 r.2
reg_stands Sll rd rs1 rs2 r = of_reg Sll 0b001 0b0000000 rd rs1 rs2 refl (lit< tt) (lit< tt) r.0 r.1 r.2
reg_stands Slt rd rs1 rs2 r = of_reg Slt 0b010 0b0000000 rd rs1 rs2 refl (lit< tt) (lit< tt) r.0 r.1 r.2
reg_stands Sltu rd rs1 rs2 r = of_reg Sltu 0b011 0b0000000 rd rs1 rs2 refl (lit< tt) (lit< tt) r.0 r.1 r.2
reg_stands Xor rd rs1 rs2 r = of_reg Xor 0b100 0b0000000 rd rs1 rs2 refl (lit< tt) (lit< tt) r.0 r.1 r.2
reg_stands Srl rd rs1 rs2 r = of_reg Srl 0b101 0b0000000 rd rs1 rs2 refl (lit< tt) (lit< tt) r.0 r.1 r.2
reg_stands Sra rd rs1 rs2 r = of_reg Sra 0b101 0b0100000 rd rs1 rs2 refl (lit< tt) (lit< tt) r.0 r.1 r.2
reg_stands Or rd rs1 rs2 r = of_reg Or 0b110 0b0000000 rd rs1 rs2 refl (lit< tt) (lit< tt) r.0 r.1 r.2
reg_stands And rd rs1 rs2 r = of_reg And 0b111 0b0000000 rd rs1 rs2 refl (lit< tt) (lit< tt) r.0 r.1 r.2
reg_stands Mul rd rs1 rs2 r = of_reg Mul 0b000 0b0000001 rd rs1 rs2 refl (lit< tt) (lit< tt) r.0 r.1 r.2
reg_stands Mulh rd rs1 rs2 r = of_reg Mulh 0b001 0b0000001 rd rs1 rs2 refl (lit< tt) (lit< tt) r.0 r.1 r.2
reg_stands Mulhsu rd rs1 rs2 r = of_reg Mulhsu 0b010 0b0000001 rd rs1 rs2 refl (lit< tt) (lit< tt) r.0 r.1 r.2
reg_stands Mulhu rd rs1 rs2 r = of_reg Mulhu 0b011 0b0000001 rd rs1 rs2 refl (lit< tt) (lit< tt) r.0 r.1 r.2
reg_stands Div rd rs1 rs2 r = of_reg Div 0b100 0b0000001 rd rs1 rs2 refl (lit< tt) (lit< tt) r.0 r.1 r.2
reg_stands Divu rd rs1 rs2 r = of_reg Divu 0b101 0b0000001 rd rs1 rs2 refl (lit< tt) (lit< tt) r.0 r.1 r.2
reg_stands Rem rd rs1 rs2 r = of_reg Rem 0b110 0b0000001 rd rs1 rs2 refl (lit< tt) (lit< tt) r.0 r.1 r.2
reg_stands Remu rd rs1 rs2 r = of_reg Remu 0b111 0b0000001 rd rs1 rs2 refl (lit< tt) (lit< tt) r.0 r.1 r.2

-- the table's fields stand for their instruction
stands : (i : Instr) → IsInRange i → StandsFor (fields_of i) i
stands (Lui rd imm) r = record { fit = search arith; meaning = ap (λ n. Some (Lui rd n)) (u_imm-u_type 0b0110111 rd imm r.1) }
stands (Auipc rd imm) r = record { fit = search arith; meaning = ap (λ n. Some (Auipc rd n)) (u_imm-u_type 0b0010111 rd imm r.1) }
stands (Jal rd imm) r = record { fit = search (arith, ints); meaning = ap (λ d. Some (Jal rd d)) (j_imm-j_type 0b1101111 rd imm r.1 r.2) }
stands (Jalr rd rs1 imm) r = record { fit = search (arith, ints); meaning = ap (λ d. Some (Jalr rd rs1 d)) (i_imm-i_type 0b1100111 0 rd rs1 imm r.2) }
stands (Branch op rs1 rs2 imm) r = branch_stands op rs1 rs2 imm r
stands (Load op rd rs1 imm) r = load_stands op rd rs1 imm r
stands (Store op rs1 rs2 imm) r = store_stands op rs1 rs2 imm r
stands (OpImm op rd rs1 imm) r = imm_stands op rd rs1 imm r
stands (Op op rd rs1 rs2) r = reg_stands op rd rs1 rs2 r
stands (Fence rest) r = record { fit = search arith; meaning = ap (λ n. Some (Fence n)) (fence_rest-fence_type 0b0001111 0 rest r) }
stands Ecall r = record { fit = search arith; meaning = refl }
stands Ebreak r = record { fit = search arith; meaning = refl }

-- an instruction of the table is what its word stands for
pub decode_of_encode_of : (i : Instr) → IsInRange i → decode_of (encode_of i) ≡ Some i
unfolding decode_of encode_of
decode_of_encode_of i range = ap decoded (fields_at-pack (fields_of i) (stands i range).fit) ∙ (stands i range).meaning
