use Rattle.std.proofs.Common.{◌≡◌, map, IsSome}
use Rattle.std.specs.List.{AllWithin}
use Rattle.flit_link.specs.Link.{sending, places_known}
use Rattle.tile_core.specs.Wires.{out_seen}
use Rattle.tile_core.proofs.calls.offer_each.Given as goal

abbrev pub invariant-loop-wire : goal.invariant-loop-wire
invariant-loop-wire l = (map out_seen l.outs ≡ map out_seen l.fn.outs)
    × AllWithin (λ wire. IsSome (sending wire.end) → places_known wire.end ≡ 0) l.outs 0 l.wire-index
