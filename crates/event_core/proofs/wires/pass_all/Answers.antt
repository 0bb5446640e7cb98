use Rattle.std.proofs.Common.{arith, map}
use Rattle.std.proofs.lemmas.List.{length-map}
use Rattle.soc_base.specs.Port.{idle}
use Rattle.core_model.specs.Core.{passed}
use Rattle.event_core.specs.inner.Wires.{line_of, HasRoom}
use Rattle.event_core.proofs.WireLoops.{viewed_more, within_rest}
use Rattle.event_core.proofs.wires.pass_all.Goals as goal

pub pass-requires : goal.pass-requires
pass-requires c = c.loop-wire.invariant.room c.loop-wire.wire-index c.wire-item.result (omega arith) (omega arith)

pub loop-wire-preserved : goal.loop-wire-preserved
loop-wire-preserved c =
    let same = length-map c.args.wires.now line_of in
    record {
      done = viewed_more line_of (passed idle c.args.tile c.args.outputs.now) (map line_of c.args.wires.now) c.loop-wire.wires c.loop-wire.wire-index c.pass.new.wire c.wire-item.result (omega arith) (omega (arith, same)) c.loop-wire.invariant.done c.pass.ensures;
      room = within_rest HasRoom c.loop-wire.wires c.loop-wire.wire-index c.pass.new.wire c.loop-wire.invariant.room;
    }
