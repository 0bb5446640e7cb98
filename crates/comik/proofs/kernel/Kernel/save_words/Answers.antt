use Rattle.std.proofs.Common.{◌-◌, ◌<◌, ap, subst, arith, ◌∙◌}
use Rattle.comik.specs.Kernel.{KernelState, IsBelow}
use Rattle.comik.specs.Table.{saved_words}
use Rattle.comik.proofs.Stretches.{frame_saved}
use Rattle.comik.proofs.kernel.Kernel.save_words.Goals as goal

pub returns-in-Some : goal.returns-in-Some
returns-in-Some c =
    let k = c.self.inside in
    let state : KernelState = record { times = k.times; file = k.file; frames = k.frames.items; owners = k.owners.items; held = k.held; next = k.next } in
    let size = c.self.invariant.frames in
    let below : c.in-Some.part < k.times.slots = subst (IsBelow k.times.slots) c.in-Some.is c.self.invariant.held in
    let n = c.args.end - c.args.first in
    frame_saved state c.in-Some.part c.from.result c.args.first n c.index_mut.result.now c.copy_words.new.self c.in-Some.is c.from.ensures (omega arith) c.index_mut.ensures.value c.copy_words.ensures
    ∙ ap (λ (s : KernelState). saved_words s c.args.first n) c.self.view_is
