use Rattle.std.proofs.Common.{◌≡◌, ◌≤◌, take}
use Rattle.event_core.specs.Core.{after_events, enabled_count}
use Rattle.event_core.proofs.engine.Core.run.Given as goal

abbrev pub invariant-loop-event : goal.invariant-loop-event
invariant-loop-event l = record {
  done : l.self ≡ after_events l.fn.self (take l.event-index l.fn.events);
  counted : l.count ≡ enabled_count l.fn.self (take l.event-index l.fn.events);
  few : l.count ≤ l.event-index;
}
