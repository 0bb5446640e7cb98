use Rattle.std.proofs.Common.{◌≡◌, ◌++◌, length, map, take, drop}
use Rattle.std.specs.List.{AllWithin}
use Rattle.soc_base.specs.Port.{idle}
use Rattle.core_model.specs.Core.{passed}
use Rattle.event_core.specs.inner.Wires.{line_of, HasRoom}
use Rattle.event_core.proofs.wires.pass_all.Given as goal

abbrev pub invariant-loop-wire : goal.invariant-loop-wire
invariant-loop-wire l = record {
  done : map line_of l.wires ≡ map (passed idle l.tile l.outputs) (take l.wire-index (map line_of l.fn.wires)) ++ drop l.wire-index (map line_of l.fn.wires);
  room : AllWithin HasRoom l.wires l.wire-index (length l.wires);
}
