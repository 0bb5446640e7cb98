use Rattle.std.proofs.Common.{◌≡◌, ◌++◌, length, map, take, drop, sym, ap, ◌∙◌}
use Rattle.std.proofs.lemmas.List.{take_at, length-map}
use Rattle.comik.specs.Kernel.{KernelState, without}
use Rattle.comik.proofs.Whole.{kernel_left}
use Rattle.comik.proofs.kernel.Kernel.remove.Goals as goal

pub invariant_of-self : goal.invariant_of-self
invariant_of-self c =
    let k = c.self.inside in
    let state : KernelState = record { times = k.times; file = k.file; frames = k.frames.items; owners = k.owners.items; held = k.held; next = k.next } in
    let part = c.args.part in
    let was : c.as_mut_slice.result.now ≡ k.owners.items = c.as_mut_slice.ensures.value in
    let freed : c.free.new.owners ≡ map (without part) k.owners.items = c.free.ensures ∙ ap (map (without part)) was in
    let size : length c.free.new.owners ≡ k.owners.len = ap length freed ∙ length-map k.owners.items (without part) ∙ sym (ap length was) ∙ c.as_mut_slice.ensures.len in
    let owners = take_at c.free.new.owners (drop (length c.free.new.owners) k.owners.items) k.owners.len size ∙ freed in
    kernel_left state part c.from.result c.new-self-inside.result c.new.result (take k.owners.len (c.free.new.owners ++ drop (length c.free.new.owners) k.owners.items)) c.without-self-inside-2.result c.without-self-inside.result owners c.without-self-inside-2.ensures c.without-self-inside.ensures c.self.invariant

pub invariant_of-self-else-was_held : goal.invariant_of-self-else-was_held
invariant_of-self-else-was_held c =
    let k = c.self.inside in
    let state : KernelState = record { times = k.times; file = k.file; frames = k.frames.items; owners = k.owners.items; held = k.held; next = k.next } in
    let part = c.args.part in
    let was : c.as_mut_slice.result.now ≡ k.owners.items = c.as_mut_slice.ensures.value in
    let freed : c.free.new.owners ≡ map (without part) k.owners.items = c.free.ensures ∙ ap (map (without part)) was in
    let size : length c.free.new.owners ≡ k.owners.len = ap length freed ∙ length-map k.owners.items (without part) ∙ sym (ap length was) ∙ c.as_mut_slice.ensures.len in
    let owners = take_at c.free.new.owners (drop (length c.free.new.owners) k.owners.items) k.owners.len size ∙ freed in
    kernel_left state part c.from.result k.file c.new.result (take k.owners.len (c.free.new.owners ++ drop (length c.free.new.owners) k.owners.items)) c.without-self-inside-2.result c.without-self-inside.result owners c.without-self-inside-2.ensures c.without-self-inside.ensures c.self.invariant
