use Rattle.std.proofs.Common.{◌∙◌, ap, true, false}
use Rattle.turn_lock.specs.declared.view.View.{View}
use Rattle.turn_lock.specs.declared.view.Stage.TheVariants.{Holds}
use Rattle.turn_lock.proofs.line.Line.enter.Goals as goal

pub learn-requires-clause-taken : goal.learn-requires-clause-taken
learn-requires-clause-taken g c = (c.draw-ticket.result, g.V.Kept.entries c.wait-value.result, ap (λ m. m.0.stage) c.wait-value.ensures.view)

pub returns-clause-held : goal.returns-clause-held
returns-clause-held g c =
    let l = c.learn.ensures.learnt c.draw-ticket.result (g.V.Kept.entries c.wait-value.result) (ap (λ m. m.0.stage) c.wait-value.ensures.view) in
    l.0 ∙ ap (λ m. m.1) c.wait-value.ensures.view

pub returns-clause-view : goal.returns-clause-view
returns-clause-view g c =
    let es = g.V.Kept.entries c.wait-value.result in
    let n = c.draw-ticket.result in
    let l = c.learn.ensures.learnt n es (ap (λ m. m.0.stage) c.wait-value.ensures.view) in
    (n, l.2 ∙ ap (λ (v : View g.row.V-Base.Denot g.row.V-Entry.Denot). record v { seen = es; stage = Holds n es true }) (ap (λ m. m.0) c.wait-value.ensures.view ∙ ap (λ (u : View g.row.V-Base.Denot g.row.V-Entry.Denot). record u { stage = Holds n es false }) c.draw-ticket.ensures.drew.1))
