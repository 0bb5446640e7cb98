use Rattle.std.proofs.Common.{is_none, refl, ◌∙◌, arith}
use Rattle.std.proofs.lemmas.List.{length-set}
use Rattle.flit_link.specs.declared.ends.LinkIn.{LinkIn}
use Rattle.flit_link.specs.Link.{receiving}
use Rattle.tile_core.specs.declared.wire.Wire.{Wire}
use Rattle.tile_core.specs.Wires.{in_seen}
use Rattle.tile_core.proofs.Finding.{same_seen, none_more}
use Rattle.tile_core.proofs.Waiting.{some_waits}
use Rattle.tile_core.proofs.calls.poll_all.Goals as goal

pub loop-i-preserved : goal.loop-i-preserved
loop-i-preserved c =
    let p = λ (wire : Wire LinkIn). is_none (receiving wire.end) in (
      same_seen in_seen c.loop-i.ins c.loop-i.i c.poll_one.new.wire c.index-ins-i.result c.poll_one.ensures.seen ∙ c.loop-i.invariant.0,
      length-set c.loop-i.ins c.loop-i.i c.poll_one.new.wire ∙ c.loop-i.invariant.1,
      none_more p c.loop-i.ins c.loop-i.i c.poll_one.new.wire (omega arith) c.loop-i.invariant.2 (some_waits (receiving c.poll_one.new.wire.end) (c.if-not-poll_one.ensures.waits refl)),
    )
