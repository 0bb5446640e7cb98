use Rattle.std.proofs.Common.{is_some, refl, ap, ◌∙◌, arith}
use Rattle.std.proofs.lemmas.List.{length-set}
use Rattle.flit_link.specs.declared.ends.LinkOut.{LinkOut}
use Rattle.flit_link.specs.Link.{sending}
use Rattle.tile_core.specs.declared.wire.Wire.{Wire}
use Rattle.tile_core.specs.Wires.{out_seen}
use Rattle.tile_core.proofs.Finding.{same_seen, none_more}
use Rattle.tile_core.proofs.calls.offer_all.Goals as goal

pub loop-i-preserved : goal.loop-i-preserved
loop-i-preserved c =
    let p = λ (wire : Wire LinkOut). is_some (sending wire.end) in (
      same_seen out_seen c.loop-i.outs c.loop-i.i c.offer_one.new.wire c.index-outs-i.result c.offer_one.ensures.seen ∙ c.loop-i.invariant.0,
      length-set c.loop-i.outs c.loop-i.i c.offer_one.new.wire ∙ c.loop-i.invariant.1,
      none_more p c.loop-i.outs c.loop-i.i c.offer_one.new.wire (omega arith) c.loop-i.invariant.2 (ap is_some (c.if-not-offer_one.ensures.gone refl)),
    )
