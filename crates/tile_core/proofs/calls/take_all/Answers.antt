use Rattle.std.proofs.Common.{ap, ◌∙◌, arith}
use Rattle.std.proofs.lemmas.List.{length-set}
use Rattle.flit_link.specs.declared.ends.LinkIn.{LinkIn}
use Rattle.flit_link.specs.Link.{receiving}
use Rattle.tile_core.specs.declared.wire.Wire.{Wire}
use Rattle.tile_core.specs.Wires.{Seen, in_seen, taken_more, waiting}
use Rattle.tile_core.specs.Turns.{StaysInLine}
use Rattle.tile_core.proofs.Stepping.{rest_more, next_same, seen_more, related_more}
use Rattle.tile_core.proofs.Waiting.{next_waits, brought_more}
use Rattle.tile_core.proofs.calls.take_all.Goals as goal

pub take_one-flit-requires : goal.take_one-flit-requires
take_one-flit-requires c = next_waits c.args.ins.now c.loop-wire.ins c.loop-wire.wire-index c.wire-item.result (omega arith) c.loop-wire.invariant.0 c.loop-wire.invariant.1 c.requires.waits

pub loop-wire-preserved : goal.loop-wire-preserved
loop-wire-preserved c =
    let xs = c.args.ins.now in
    let ys = c.loop-wire.ins in
    let i = c.loop-wire.wire-index in
    let y = c.take_one-flit.new.wire in
    let d = c.wire-item.result in
    let same = next_same xs ys i d (omega arith) c.loop-wire.invariant.0 c.loop-wire.invariant.1 in (
      length-set ys i y ∙ c.loop-wire.invariant.0,
      rest_more xs ys i y c.loop-wire.invariant.1,
      seen_more in_seen taken_more xs ys i y d (omega arith) c.loop-wire.invariant.0 c.loop-wire.invariant.2 (c.take_one-flit.ensures.seen ∙ ap taken_more same),
      brought_more xs i d c.loop-wire.inputs c.from.result c.take_one-flit.result (omega arith) c.loop-wire.invariant.3
          (c.from.ensures ∙ ap (λ (s : Seen). s.place) c.take_one-flit.ensures.seen ∙ ap (λ (w : Wire LinkIn). w.place) same)
          (c.take_one-flit.ensures.flit ∙ ap (λ (w : Wire LinkIn). waiting (receiving w.end)) same),
      length-set c.loop-wire.inputs c.from.result c.take_one-flit.result ∙ c.loop-wire.invariant.4,
      related_more StaysInLine xs ys i y d (omega arith) c.loop-wire.invariant.0 c.loop-wire.invariant.1 c.take_one-flit.ensures.line c.loop-wire.invariant.5,
    )
