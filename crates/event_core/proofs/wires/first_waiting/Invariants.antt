use Rattle.std.proofs.Common.{◌≡◌, ◌<◌, ℕ, not, false, get_or}
use Rattle.event_core.specs.declared.wires.Wire.{Wire}
use Rattle.core_model.specs.Core.{is_fed}
use Rattle.event_core.specs.inner.Wires.{line_of}
use Rattle.event_core.proofs.wires.first_waiting.Given as goal

abbrev pub invariant-loop-number : goal.invariant-loop-number
invariant-loop-number l = (k : ℕ) (d : Wire) → k < l.number → not (is_fed l.tile (line_of (get_or l.wires k d))) ≡ false
