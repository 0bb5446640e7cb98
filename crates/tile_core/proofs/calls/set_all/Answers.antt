use Rattle.std.proofs.Common.{ap, ◌∙◌, arith}
use Rattle.std.proofs.lemmas.List.{length-set}
use Rattle.flit_link.specs.declared.ends.LinkOut.{LinkOut}
use Rattle.tile_core.specs.declared.wire.Wire.{Wire}
use Rattle.tile_core.specs.Wires.{out_seen, set_on}
use Rattle.tile_core.specs.Turns.{WritesInLine}
use Rattle.tile_core.proofs.Stepping.{rest_more, next_same, seen_more, all_seen, map_map, related_more}
use Rattle.tile_core.proofs.Waiting.{next_free}
use Rattle.tile_core.proofs.calls.set_all.Goals as goal

pub set_one-requires : goal.set_one-requires
set_one-requires c = next_free c.args.outs.now c.loop-wire.outs c.loop-wire.wire-index c.wire-item.result (omega arith) c.loop-wire.invariant.0 c.loop-wire.invariant.1 c.requires.free

pub loop-wire-preserved : goal.loop-wire-preserved
loop-wire-preserved c =
    let xs = c.args.outs.now in
    let ys = c.loop-wire.outs in
    let i = c.loop-wire.wire-index in
    let y = c.set_one.new.wire in
    let d = c.wire-item.result in
    let g = λ (wire : Wire LinkOut). set_on c.args.outputs.now (out_seen wire) in (
      length-set ys i y ∙ c.loop-wire.invariant.0,
      rest_more xs ys i y c.loop-wire.invariant.1,
      seen_more out_seen g xs ys i y d (omega arith) c.loop-wire.invariant.0 c.loop-wire.invariant.2 (c.set_one.ensures.seen ∙ ap g (next_same xs ys i d (omega arith) c.loop-wire.invariant.0 c.loop-wire.invariant.1)),
      related_more WritesInLine xs ys i y d (omega arith) c.loop-wire.invariant.0 c.loop-wire.invariant.1 c.set_one.ensures.line c.loop-wire.invariant.3,
    )

pub returns-clause-seen : goal.returns-clause-seen
returns-clause-seen c =
    let outs = c.args.outs.now in
    let g = λ (wire : Wire LinkOut). set_on c.args.outputs.now (out_seen wire) in
    all_seen out_seen g outs c.loop-wire.outs c.loop-wire.wire-index (omega arith) c.loop-wire.invariant.0 c.loop-wire.invariant.2 ∙ map_map (set_on c.args.outputs.now) out_seen outs
