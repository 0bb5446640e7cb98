-- How the register file is lent.
use Rattle.std.specs.Borrow.{Lends, MutBor, Fml}
use Rattle.comik.specs.declared.context.Context.{Context}
use Rattle.comik.specs.contracts.context.Context.{the_row as context_row}
use Rattle.comik.specs.contracts.kernel.Kernel.{the_row as kernel_row}
use Rattle.comik.specs.Kernel.{KernelState}

-- the kernel ends with the register file that is left behind the reference
abbrev pub LendsFile : MutBor KernelState → MutBor Context → Fml
LendsFile k file = Lends kernel_row context_row k file (λ (w : Context). record k.now { file = w })
