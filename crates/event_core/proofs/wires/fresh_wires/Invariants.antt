use Rattle.std.proofs.Common.{◌≡◌, ◌≤◌, length, map, take, vec_len, vec_capacity}
use Rattle.soc_base.specs.Port.{idle}
use Rattle.core_model.specs.Core.{fresh_line}
use Rattle.event_core.specs.inner.Wires.{line_of}
use Rattle.event_core.proofs.wires.fresh_wires.Given as goal

abbrev pub invariant-loop-link : goal.invariant-loop-link
invariant-loop-link l = record {
  made : map line_of l.wires.items ≡ map (fresh_line idle) (take l.link-index l.links);
  count : vec_len l.wires ≡ l.link-index;
  room : length l.links ≤ vec_capacity l.wires;
}
