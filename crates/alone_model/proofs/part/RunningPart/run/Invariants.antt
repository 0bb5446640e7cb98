use Rattle.std.proofs.Common.{◌≡◌, ◌≤◌, ◌-◌}
use Rattle.soc_base.specs.Steps.{after_steps}
use Rattle.alone_model.specs.App.{part_step}
use Rattle.alone_model.proofs.part.RunningPart.run.Given as goal

abbrev pub invariant-loop-at : goal.invariant-loop-at
invariant-loop-at l = record {
  cycles : l.self ≡ after_steps (part_step l.platform l.start) l.from (l.at - l.from) l.fn.self;
  later : l.from ≤ l.at;
  within : l.at ≤ l.to;
}

abbrev pub decreases-loop-at : goal.decreases-loop-at
decreases-loop-at l = l.to - l.at
