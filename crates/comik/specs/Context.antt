-- The 33 words of a context: word 0 is pc, words 1 to 31 are x1 to x31, word 32 is `left`.
use Rattle.std.specs.Prelude.{◌≡◌, ℕ, ◌==◌, nat_lt, length, if◌then◌else◌}
use Rattle.soc_base.specs.Steps.{after_steps}
use Rattle.rv_core.specs.Registers.{fresh_registers, register_at, with_register}
use Rattle.comik.specs.declared.context.Context.{Context}

-- a context of which pc is given and every other word is 0
abbrev pub fresh_context : ℕ → Context
fresh_context pc = record { regs = fresh_registers pc; left = 0 }

-- word n of a context
abbrev pub word_at : Context → ℕ → ℕ
word_at context n =
    if n == 0 then context.regs.pc
    else if nat_lt n 32 then register_at context.regs n
    else context.left

-- a context into which word n of another is copied
abbrev pub copied : Context → Context → ℕ → Context
copied to from n =
    if n == 0 then record to { regs = record to.regs { pc = from.regs.pc } }
    else if nat_lt n 32 then record to { regs = with_register to.regs n (register_at from.regs n) }
    else record to { left = from.left }

-- a context that a core can hold: 32 registers, of which x0 is zero
pub record IsContext (context : Context) : Type 0 where
  pub count : length context.regs.x ≡ 32
  pub zero : register_at context.regs 0 ≡ 0

-- a context into which n words of another, from one number on, are copied
abbrev pub copied_words : Context → Context → ℕ → ℕ → Context
copied_words to from first n = after_steps (λ at context. copied context from at) first n to
