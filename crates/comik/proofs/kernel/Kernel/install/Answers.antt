use Rattle.std.proofs.Common.{◌≡◌, ℕ, ◌<◌, ◌^◌, ◌++◌, List, Option, length, take, drop, slice_set, sym, ap, ap₂, subst, ◌∙◌, arith}
use Rattle.std.proofs.lemmas.List.{take_at}
use Rattle.comik.specs.declared.context.Context.{Context}
use Rattle.comik.specs.Kernel.{KernelState, IsKernel, AreFree, least_slot}
use Rattle.comik.specs.Parts.{claimed, prepared}
use Rattle.comik.proofs.Least.{least_below}
use Rattle.comik.proofs.Owners.{length_claimed}
use Rattle.comik.proofs.Whole.{kernel_prepared}
use Rattle.comik.proofs.kernel.Kernel.install.Goals as goal

pub index_mut-requires : goal.index_mut-requires
index_mut-requires c =
    let k = c.self.inside in
    let below = least_below c.args.slots k.times.slots c.requires.some c.ranges.slots.fits (subst (λ (s : KernelState). c.args.slots < 2 ^ s.times.slots) (sym c.self.view_is) c.requires.below) in
    let size = c.self.invariant.frames in
    omega (arith, c.from.ensures)

pub invariant_of-self : goal.invariant_of-self
invariant_of-self c =
    let k = c.self.inside in
    let state : KernelState = record { times = k.times; file = k.file; frames = k.frames.items; owners = k.owners.items; held = k.held; next = k.next } in
    let slots = c.args.slots in
    let part = least_slot slots in
    let below = subst (λ (s : KernelState). slots < 2 ^ s.times.slots) (sym c.self.view_is) c.requires.below in
    let free = subst (λ (s : KernelState). AreFree s slots) (sym c.self.view_is) c.requires.free in
    let done : IsKernel (prepared state slots c.args.entry) = kernel_prepared state slots c.args.entry c.requires.some c.ranges.slots.fits below free c.self.invariant in
    let was : c.as_mut_slice.result.now ≡ k.owners.items = c.as_mut_slice.ensures.value in
    let taken : c.claim.new.owners ≡ claimed slots part k.owners.items = c.claim.ensures ∙ ap (claimed slots part) was in
    let size : length c.claim.new.owners ≡ k.owners.len = ap length taken ∙ length_claimed slots part k.owners.items ∙ sym (ap length was) ∙ c.as_mut_slice.ensures.len in
    let owners = take_at c.claim.new.owners (drop (length c.claim.new.owners) k.owners.items) k.owners.len size ∙ taken in
    let frames = ap₂ (λ (i : ℕ) (x : Context). slice_set k.frames.items i x) c.from.ensures c.new.ensures in
    let one = subst (λ (os : List (Option ℕ)). IsKernel (record (prepared state slots c.args.entry) { owners = os })) (sym owners) done in
    subst (λ (fs : List Context). IsKernel (record (prepared state slots c.args.entry) { owners = take k.owners.len (c.claim.new.owners ++ drop (length c.claim.new.owners) k.owners.items); frames = fs })) (sym frames) one
