use Rattle.std.proofs.Common.{◌≡◌, map}
use Rattle.std.specs.List.{AllWithin}
use Rattle.event_core.specs.inner.Wires.{line_of, HasRoom}
use Rattle.event_core.proofs.wires.make_room.Given as goal

abbrev pub invariant-loop-wire : goal.invariant-loop-wire
invariant-loop-wire l = record {
  same : map line_of l.wires ≡ map line_of l.fn.wires;
  room : AllWithin HasRoom l.wires 0 l.wire-index;
}
