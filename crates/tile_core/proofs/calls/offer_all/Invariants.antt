use Rattle.std.proofs.Common.{◌≡◌, None, map, find, take, length, is_some}
use Rattle.flit_link.specs.Link.{sending}
use Rattle.tile_core.specs.Wires.{out_seen}
use Rattle.tile_core.proofs.calls.offer_all.Given as goal

abbrev pub invariant-loop-i : goal.invariant-loop-i
invariant-loop-i l = (map out_seen l.outs ≡ map out_seen l.fn.outs) × (length l.outs ≡ length l.fn.outs) × (find (λ wire. is_some (sending wire.end)) (take l.i l.outs) ≡ None)
