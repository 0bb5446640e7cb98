use Rattle.std.proofs.Common.{◌≡◌, map, find, drop}
use Rattle.lockstep.specs.Lockstep.{enters}
use Rattle.event_core.specs.inner.Wires.{line_of}
use Rattle.event_core.proofs.wires.input.Given as goal

abbrev pub invariant-loop-wire : goal.invariant-loop-wire
invariant-loop-wire l = find (λ line. enters l.tile l.input line.link) (map line_of (drop l.wire-index l.wires)) ≡ find (λ line. enters l.tile l.input line.link) (map line_of l.wires)
