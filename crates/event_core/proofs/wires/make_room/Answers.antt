use Rattle.std.proofs.Common.{arith, ◌∙◌}
use Rattle.std.proofs.lemmas.List.Elements.{AllWithin-more_set}
use Rattle.event_core.specs.inner.Wires.{line_of, HasRoom}
use Rattle.event_core.proofs.WireLoops.{viewed_same}
use Rattle.event_core.proofs.wires.make_room.Goals as goal

pub returns-in_err-room-clause-same : goal.returns-in_err-room-clause-same
returns-in_err-room-clause-same c = viewed_same line_of c.loop-wire.wires c.loop-wire.wire-index c.room.new.wire c.wire-item.result c.room.ensures.same ∙ c.loop-wire.invariant.same

pub loop-wire-preserved : goal.loop-wire-preserved
loop-wire-preserved c = record {
  same = viewed_same line_of c.loop-wire.wires c.loop-wire.wire-index c.room.new.wire c.wire-item.result c.room.ensures.same ∙ c.loop-wire.invariant.same;
  room = AllWithin-more_set c.loop-wire.wires c.loop-wire.wire-index c.room.new.wire (omega arith) HasRoom c.loop-wire.invariant.room c.in_ok-room.ensures.room;
}
