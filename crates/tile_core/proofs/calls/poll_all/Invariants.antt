use Rattle.std.proofs.Common.{◌≡◌, None, map, find, take, length, is_none}
use Rattle.flit_link.specs.Link.{receiving}
use Rattle.tile_core.specs.Wires.{in_seen}
use Rattle.tile_core.proofs.calls.poll_all.Given as goal

abbrev pub invariant-loop-i : goal.invariant-loop-i
invariant-loop-i l = (map in_seen l.ins ≡ map in_seen l.fn.ins) × (length l.ins ≡ length l.fn.ins) × (find (λ wire. is_none (receiving wire.end)) (take l.i l.ins) ≡ None)
