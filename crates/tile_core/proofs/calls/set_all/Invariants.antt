use Rattle.std.proofs.Common.{◌≡◌, map, take, drop, length}
use Rattle.tile_core.specs.Wires.{out_seen, set_on}
use Rattle.tile_core.specs.Turns.{WritesInLine}
use Rattle.tile_core.specs.inner.Calls.{AreRelated}
use Rattle.tile_core.proofs.calls.set_all.Given as goal

abbrev pub invariant-loop-wire : goal.invariant-loop-wire
invariant-loop-wire l = (length l.outs ≡ length l.fn.outs) × (drop l.wire-index l.outs ≡ drop l.wire-index l.fn.outs)
    × (map out_seen (take l.wire-index l.outs) ≡ map (λ wire. set_on l.outputs (out_seen wire)) (take l.wire-index l.fn.outs))
    × AreRelated WritesInLine l.fn.outs l.outs
