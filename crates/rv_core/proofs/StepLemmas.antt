-- What a step keeps.
use Rattle.std.proofs.Common.{◌≡◌, ◌≢◌, arith}
use Rattle.rv_core.specs.declared.instr.Instr.{Instr}
use Rattle.rv_core.specs.declared.bus.Answer.{Answer}
use Rattle.rv_core.specs.declared.execution.Outcome.TheVariants.{Next}
use Rattle.rv_core.specs.Registers.{Registers}
use Rattle.rv_core.specs.Effect.{effect_of}

-- a step that doesn't end with the next instruction changes no register
pub registers_stay : (r : Registers) (i : Instr) (answer : Answer) → (effect_of r i answer).outcome ≢ Next
    → (effect_of r i answer).regs ≡ r
unfolding effect_of
registers_stay r i answer other = grind arith
