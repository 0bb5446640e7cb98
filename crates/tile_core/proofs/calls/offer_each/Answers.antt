use Rattle.std.proofs.Common.{◌≡◌, IsSome, ◌∙◌, arith}
use Rattle.std.proofs.lemmas.List.Elements.{AllWithin-more_set}
use Rattle.flit_link.specs.declared.ends.LinkOut.{LinkOut}
use Rattle.flit_link.specs.Link.{sending, places_known}
use Rattle.tile_core.specs.declared.wire.Wire.{Wire}
use Rattle.tile_core.specs.Wires.{out_seen}
use Rattle.tile_core.proofs.Finding.{same_seen}
use Rattle.tile_core.proofs.calls.offer_each.Goals as goal

pub loop-wire-preserved : goal.loop-wire-preserved
loop-wire-preserved c =
    let ys = c.loop-wire.outs in
    let i = c.loop-wire.wire-index in
    let y = c.offer_one.new.wire in
    let P : Wire LinkOut → Type 0 = λ wire. IsSome (sending wire.end) → places_known wire.end ≡ 0 in (
      same_seen out_seen ys i y c.wire-item.result c.offer_one.ensures.seen ∙ c.loop-wire.invariant.0,
      AllWithin-more_set ys i y (omega arith) P c.loop-wire.invariant.1 c.offer_one.ensures.offered,
    )
