use Rattle.std.proofs.Common.{subst, sym, ap, ◌∙◌}
use Rattle.comik.specs.Kernel.{KernelState}
use Rattle.comik.specs.Switching.{InStep, context_of}
use Rattle.comik.proofs.Parts.{cleared_in_step, cleared_others}
use Rattle.comik.proofs.kernel.Kernel.clear.Goals as goal

pub returns-clause-step : goal.returns-clause-step
returns-clause-step c = λ offset step.
    let P : KernelState → Type 0 = λ k. InStep k offset in
    subst P (sym c.remove.ensures) (cleared_in_step c.args.self.now c.args.part offset step)

pub returns-clause-others : goal.returns-clause-others
returns-clause-others c = λ offset other apart.
    ap (λ (k : KernelState). context_of k offset other) c.remove.ensures ∙ cleared_others c.args.self.now c.args.part offset other apart
