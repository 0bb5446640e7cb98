use Rattle.std.proofs.Common.{◌≡◌, ◌∙◌, ◌+◌, ◌≤◌, ℕ, cond, take, get_or, Result, Ok, Err, OnErr, sym, ap, arith}
use Rattle.event_core.specs.declared.event.Event.{Event}
use Rattle.event_core.specs.declared.event.Event.TheVariants.{Command}
use Rattle.event_core.specs.Core.{Engaged, after_event, is_enabled, enabled_count}
use Rattle.event_core.proofs.Runs.{after_more, count_more}
use Rattle.event_core.proofs.engine.Core.run.Goals.{then-branch, else-branch}
use Rattle.event_core.proofs.engine.Core.run.Goals as goal

on_err : {X E P : Type 0} (r : Result X E) → P → OnErr r P
on_err (Ok x) holds = tt
on_err (Err e) holds = holds

pub returns-in_err-attempt-clause-stopped : goal.returns-in_err-attempt-clause-stopped
returns-in_err-attempt-clause-stopped c =
    on_err c.from_residual.result (c.loop-event.event-index, c.in_err-attempt.ensures.kept ∙ c.loop-event.invariant.done)

pub loop-event-preserved : goal.loop-event-preserved
loop-event-preserved c =
    let start = c.args.self.now in
    let events = c.args.events.now in
    let place = c.loop-event.event-index in
    let event : Event = get_or events place (Command 0) in
    let was = c.loop-event.invariant in
    let low = c.loop-event-test.true in
    let more = count_more start events place (Command 0) low in
    let flag = c.in_ok-attempt.ensures.answer ∙ ap (λ (e : Engaged). is_enabled e event) was.done in
    let counts : (c.if-branch.count ≡ enabled_count start (take (place + 1) events)) × (c.if-branch.count ≤ place + 1) = elim c.if-branch.branch [
      | then-branch w ↦
          let one = ap {B = ℕ} (λ b. cond b 1 0) (sym flag ∙ w.if-branch.true) in
          (omega (arith, more, one, w.count-is, was.counted), omega (arith, w.count-is, was.few))
      | else-branch w ↦
          let none = ap {B = ℕ} (λ b. cond b 1 0) (sym flag ∙ w.if-branch.false) in
          (omega (arith, more, none, w.count-is, was.counted), omega (arith, w.count-is, was.few))
    ] in
    record {
      done = c.in_ok-attempt.ensures.done ∙ ap (λ (e : Engaged). after_event e event) was.done ∙ sym (after_more start events place (Command 0) low);
      counted = counts.0;
      few = counts.1;
    }
