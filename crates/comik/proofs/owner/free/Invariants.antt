use Rattle.std.proofs.Common.{◌≡◌, ◌++◌, map, take, drop}
use Rattle.comik.specs.Kernel.{without}
use Rattle.comik.proofs.owner.free.Given as goal

abbrev pub invariant-loop-owner : goal.invariant-loop-owner
invariant-loop-owner l =
    l.owners ≡ map (without l.part) (take l.owner-index l.fn.owners) ++ drop l.owner-index l.fn.owners
