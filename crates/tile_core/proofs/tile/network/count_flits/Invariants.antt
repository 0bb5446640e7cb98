use Rattle.std.proofs.Common.{◌≡◌, take}
use Rattle.tile_core.specs.Slot.{counted}
use Rattle.tile_core.proofs.tile.network.count_flits.Given as goal

abbrev pub invariant-loop-out : goal.invariant-loop-out
invariant-loop-out l = l.carried ≡ counted (take l.out l.links) l.fn.carried
