use Rattle.std.proofs.Common.{◌≡◌, map, take, drop, length}
use Rattle.tile_core.specs.Wires.{in_seen, taken_more, brought}
use Rattle.tile_core.specs.Turns.{StaysInLine}
use Rattle.tile_core.specs.inner.Calls.{AreRelated}
use Rattle.tile_core.proofs.calls.take_all.Given as goal

abbrev pub invariant-loop-wire : goal.invariant-loop-wire
invariant-loop-wire l = (length l.ins ≡ length l.fn.ins) × (drop l.wire-index l.ins ≡ drop l.wire-index l.fn.ins)
    × (map in_seen (take l.wire-index l.ins) ≡ map taken_more (take l.wire-index l.fn.ins))
    × (l.inputs ≡ brought (take l.wire-index l.fn.ins)) × (length l.inputs ≡ 7)
    × AreRelated StaysInLine l.fn.ins l.ins
