use Rattle.std.proofs.Common.{◌≡◌, ◌++◌, ◌-◌, map, take, drop}
use Rattle.alone_model.specs.inner.Stretch.{part_steps}
use Rattle.alone_model.proofs.application.run_each.Given as goal

abbrev pub invariant-loop-part : goal.invariant-loop-part
invariant-loop-part l =
    let run = part_steps l.platform l.start l.from (l.to - l.from) in
    l.part-items ≡ map run (take l.part-index l.fn.parts.items) ++ drop l.part-index l.fn.parts.items
