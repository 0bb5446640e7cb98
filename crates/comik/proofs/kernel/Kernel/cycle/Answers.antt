use Rattle.std.proofs.Common.{◌+◌, subst, sym}
use Rattle.soc_base.specs.Time.{offset_at}
use Rattle.comik.specs.Kernel.{KernelState}
use Rattle.comik.specs.Switching.{Keeps}
use Rattle.comik.proofs.Switches.{cycle_keeps}
use Rattle.comik.proofs.kernel.Kernel.cycle.Goals as goal

pub returns-clause-keeps : goal.returns-clause-keeps
returns-clause-keeps c = λ step.
    let k = c.args.self.now in
    let P : KernelState → Type 0 = λ after. Keeps k (offset_at k.times c.args.cycle) after (offset_at k.times (c.args.cycle + 1)) in
    subst P (sym c.advance.ensures.row) (cycle_keeps k c.args.cycle c.advance.ensures.valid c.words.ensures step)
