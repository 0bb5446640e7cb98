use Rattle.std.proofs.Common.{false, sym, ◌∙◌}
use Rattle.std.proofs.lemmas.List.{get_or_read_under}
use Rattle.bundle_model.proofs.Marks.{unplaced_met, placed_met, unplaced_marks, placed_marks}
use Rattle.bundle_model.proofs.doubled.mark.Goals as goal

pub returns-in-None-clause-met : goal.returns-in-None-clause-met
returns-in-None-clause-met c = λ met are. sym (unplaced_met c.args.resource met (sym c.in-None.ensures.value))

pub returns-in-None-clause-marked : goal.returns-in-None-clause-marked
returns-in-None-clause-marked c = λ met are. unplaced_marks c.args.resource c.args.marks.now.items met (sym c.in-None.ensures.value) are

pub returns-in-Some-clause-met : goal.returns-in-Some-clause-met
returns-in-Some-clause-met c = λ met are.
    get_or_read_under c.args.marks.now.items c.in-Some.place 196608 c.index-met.result.now false c.index-met.ensures c.in-Some.ensures.inside (sym c.requires)
    ∙ placed_met c.args.resource c.in-Some.place c.args.marks.now.items met (sym c.in-Some.ensures.value) are

pub returns-in-Some-clause-marked : goal.returns-in-Some-clause-marked
returns-in-Some-clause-marked c = λ met are.
    placed_marks c.args.resource c.in-Some.place c.args.marks.now.items met (sym c.in-Some.ensures.value) c.in-Some.ensures.inside are
