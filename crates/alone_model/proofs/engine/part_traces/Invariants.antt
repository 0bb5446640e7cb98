use Rattle.std.proofs.Common.{◌≡◌, ◌≤◌, length, map, take, vec_len, vec_capacity}
use Rattle.alone_model.specs.Trace.{part_trace}
use Rattle.alone_model.proofs.engine.part_traces.Given as goal

abbrev pub invariant-loop-part : goal.invariant-loop-part
invariant-loop-part l =
    (l.traces.items ≡ map part_trace (take l.part-index l.parts)) × (vec_len l.traces ≡ l.part-index) × (length l.parts ≤ vec_capacity l.traces)
