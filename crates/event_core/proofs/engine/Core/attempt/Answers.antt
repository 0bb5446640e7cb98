use Rattle.std.proofs.Common.{◌∙◌, sym}
use Rattle.std.proofs.lemmas.Bool.{false≢true}
use Rattle.event_core.proofs.Runs.{unknown_event, done_enabled}
use Rattle.event_core.proofs.engine.Core.attempt.Goals as goal

pub returns-then-not-exists-clause-answer : goal.returns-then-not-exists-clause-answer
returns-then-not-exists-clause-answer c =
    sym (unknown_event c.args.self.now c.args.event (λ exists. false≢true (sym c.if-not-exists.true ∙ c.exists.ensures.1 exists))).0

pub returns-then-not-exists-clause-done : goal.returns-then-not-exists-clause-done
returns-then-not-exists-clause-done c =
    sym (unknown_event c.args.self.now c.args.event (λ exists. false≢true (sym c.if-not-exists.true ∙ c.exists.ensures.1 exists))).1

pub returns-in-Done-clause-answer : goal.returns-in-Done-clause-answer
returns-in-Done-clause-answer c =
    sym (done_enabled c.args.self.now c.args.event (c.exists.ensures.0 c.if-not-exists.false) (sym c.in_ok-step.ensures.answer ∙ c.in-Done.is))
