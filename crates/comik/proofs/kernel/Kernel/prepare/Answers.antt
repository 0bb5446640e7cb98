use Rattle.std.proofs.Common.{subst, sym, ap, ◌∙◌}
use Rattle.comik.specs.Kernel.{KernelState, least_slot}
use Rattle.comik.specs.Switching.{InStep, context_of}
use Rattle.comik.proofs.Parts.{prepared_in_step, prepared_own, prepared_others}
use Rattle.comik.proofs.kernel.Kernel.prepare.Goals as goal

pub returns-clause-step : goal.returns-clause-step
returns-clause-step c = λ offset step.
    let P : KernelState → Type 0 = λ k. InStep k offset in
    subst P (sym c.install.ensures.prepared) (prepared_in_step c.args.self.now c.args.slots c.args.entry offset c.requires.some c.ranges.slots.fits c.requires.free c.install.ensures.valid step)

pub returns-clause-own : goal.returns-clause-own
returns-clause-own c = λ offset.
    ap (context_of c.install.new.self offset) c.install.ensures.part
    ∙ ap (λ (k : KernelState). context_of k offset (least_slot c.args.slots)) c.install.ensures.prepared
    ∙ prepared_own c.args.self.now c.args.slots c.args.entry offset c.requires.some c.ranges.slots.fits c.requires.below c.requires.free c.install.ensures.valid

pub returns-clause-others : goal.returns-clause-others
returns-clause-others c = λ offset part apart.
    ap (λ (k : KernelState). context_of k offset part) c.install.ensures.prepared
    ∙ prepared_others c.args.self.now c.args.slots c.args.entry offset part (λ e. apart (e ∙ sym c.install.ensures.part))
