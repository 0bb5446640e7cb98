use Rattle.std.proofs.Common.{◌≡◌, ◌+◌, ◌-◌, sym, ap, ◌∙◌, arith}
use Rattle.soc_base.specs.Steps.{after_steps}
use Rattle.soc_base.proofs.Laws.{steps_split}
use Rattle.trace_log.specs.Log.{has_ended}
use Rattle.part_model.specs.Part.{part_cycle}
use Rattle.part_model.proofs.Laws.{ended_stays}
use Rattle.tile_mmio.specs.Part.{view_of}
use Rattle.tile_mmio.proofs.run.PartOnTile.run.Goals as goal

-- a part that has ended stays in the cycles that are left
pub returns-then-has_ended-clause-view : goal.returns-then-has_ended-clause-view
returns-then-has_ended-clause-view c =
    let step = part_cycle c.args.costs.now c.args.place in
    let before = view_of c.args.self.now in
    let rest = c.args.count - c.loop-done.done in
    let count : c.args.count ≡ c.loop-done.done + rest = omega arith in
    let ended = ended_stays c.args.costs.now c.args.place (c.args.cycle + c.loop-done.done) rest (view_of c.loop-done.self) (ap has_ended (sym c.end.ensures) ∙ sym c.if-has_ended.ensures) in
    sym (ap (λ n. after_steps step c.args.cycle n before) count
    ∙ steps_split step c.args.cycle c.loop-done.done rest before
    ∙ ap (after_steps step (c.args.cycle + c.loop-done.done) rest) (sym c.loop-done.invariant.view)
    ∙ ended)
