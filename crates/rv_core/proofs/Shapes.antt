-- A step keeps 32 registers, of which x0 is zero.
use Rattle.std.proofs.Common.{◌≡◌, ℕ, ◌%◌, ◌==◌, Bool, true, false, cond, length, sym, ◌∙◌, inl, inr}
use Rattle.std.proofs.lemmas.Bool.{cases_eq, eq-eqb, ne_eqb}
use Rattle.std.proofs.lemmas.List.{length-set, get_or-set_other}
use Rattle.rv_core.specs.declared.bus.Answer.{Answer}
use Rattle.rv_core.specs.declared.bus.Answer.TheVariants.{Done, Stall as NotNow, Fault as Refused}
use Rattle.rv_core.specs.declared.instr.Instr.{Instr}
use Rattle.rv_core.specs.declared.instr.Instr.TheVariants.{Lui, Auipc, Jal, Jalr, Branch, Load, Store, OpImm, Op, Fence, Ecall, Ebreak}
use Rattle.rv_core.specs.declared.instr.LoadOp.{LoadOp}
use Rattle.rv_core.specs.Arithmetic.{word_of, wrapped_sum, is_taken, reg_value, imm_value, loaded_value}
use Rattle.rv_core.specs.Registers.{Registers, register_at, with_register}
use Rattle.rv_core.specs.Effect.{Effect, effect_of, even_address_of, next, set, jump, link, after_load, after_store}

-- as many registers as a hart has, of which x0 is zero
pub record IsShape (r : Registers) : Type 0 where
  pub count : length r.x ≡ 32
  pub zero : register_at r 0 ≡ 0

either_shape : {X : Type 0} (f : X → Registers) (b : Bool) (x y : X) → IsShape (f x) → IsShape (f y) → IsShape (f (cond b x y))
either_shape f true x y p q = p
either_shape f false x y p q = q

with_shape : (r : Registers) (n value : ℕ) → IsShape r → IsShape (with_register r n value)
with_shape r n value shape = elim (cases_eq n 0) [
  | inl none ↦ let e : (n == 0) ≡ true = eq-eqb n 0 none in rw e shape
  | inr some ↦
      let e : (n == 0) ≡ false = ne_eqb n 0 some in
      rw e (record { count = length-set r.x n value ∙ shape.count; zero = get_or-set_other r.x n 0 value 0 (λ z. some (sym z)) ∙ shape.zero })
]

moved_shape : (r : Registers) (target : ℕ) → IsShape r → IsShape (record r { pc = target })
moved_shape r target shape = record { count = shape.count; zero = shape.zero }

set_shape : (r : Registers) (rd value : ℕ) → IsShape r → IsShape (set r rd value).regs
set_shape r rd value shape = moved_shape (with_register r rd value) (wrapped_sum (with_register r rd value).pc 4) (with_shape r rd value shape)

jump_shape : (r : Registers) (target : ℕ) → IsShape r → IsShape (jump r target).regs
jump_shape r target shape = either_shape (λ (e : Effect). e.regs) (target % 4 == 0) _ _ (moved_shape r target shape) shape

link_shape : (r : Registers) (rd target : ℕ) → IsShape r → IsShape (link r rd target).regs
link_shape r rd target shape = either_shape (λ (e : Effect). e.regs) (target % 4 == 0) _ _ (moved_shape (with_register r rd (wrapped_sum r.pc 4)) target (with_shape r rd (wrapped_sum r.pc 4) shape)) shape

load_shape : (r : Registers) (op : LoadOp) (rd : ℕ) (answer : Answer) → IsShape r → IsShape (after_load r op rd answer).regs
load_shape r op rd (Done value) shape = set_shape r rd (loaded_value op value) shape
load_shape r op rd NotNow shape = shape
load_shape r op rd (Refused cause) shape = shape

store_shape : (r : Registers) (answer : Answer) → IsShape r → IsShape (after_store r answer).regs
store_shape r (Done value) shape = moved_shape r (wrapped_sum r.pc 4) shape
store_shape r NotNow shape = shape
store_shape r (Refused cause) shape = shape

-- what a step makes of the registers of a hart has their shape
pub effect_shape : (r : Registers) (i : Instr) (answer : Answer) → IsShape r → IsShape (effect_of r i answer).regs
unfolding effect_of
effect_shape r (Lui rd imm) answer shape = set_shape r rd imm shape
effect_shape r (Auipc rd imm) answer shape = set_shape r rd (wrapped_sum r.pc imm) shape
effect_shape r (Jal rd imm) answer shape = link_shape r rd (wrapped_sum r.pc (word_of imm)) shape
effect_shape r (Jalr rd rs1 imm) answer shape = link_shape r rd (even_address_of r rs1 imm) shape
effect_shape r (Branch op rs1 rs2 imm) answer shape =
    either_shape (λ (e : Effect). e.regs) (is_taken op (register_at r rs1) (register_at r rs2)) _ _ (jump_shape r (wrapped_sum r.pc (word_of imm)) shape) (moved_shape r (wrapped_sum r.pc 4) shape)
effect_shape r (Load op rd rs1 imm) answer shape = load_shape r op rd answer shape
effect_shape r (Store op rs1 rs2 imm) answer shape = store_shape r answer shape
effect_shape r (OpImm op rd rs1 imm) answer shape = set_shape r rd (imm_value op (register_at r rs1) (word_of imm)) shape
effect_shape r (Op op rd rs1 rs2) answer shape = set_shape r rd (reg_value op (register_at r rs1) (register_at r rs2)) shape
effect_shape r (Fence rest) answer shape = moved_shape r (wrapped_sum r.pc 4) shape
effect_shape r Ecall answer shape = shape
effect_shape r Ebreak answer shape = shape
