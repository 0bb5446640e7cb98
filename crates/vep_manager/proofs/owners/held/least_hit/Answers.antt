use Rattle.std.proofs.Common.{◌-◌, List, get_or, sym, ◌∙◌, arith}
use Rattle.std.proofs.lemmas.Bool.{both_ways}
use Rattle.std.proofs.lemmas.List.{get_or_default}
use Rattle.vep_manager.specs.inner.Held.{hits}
use Rattle.vep_manager.specs.declared.owners.held.Held.{Held}
use Rattle.vep_manager.proofs.HeldOrder.{no_held}
use Rattle.vep_manager.proofs.HeldHits.{hits_reached, hit_more}
use Rattle.vep_manager.proofs.owners.held.least_hit.Goals as goal

pub loop-at-preserved-then-hit : goal.loop-at-preserved-then-hit
loop-at-preserved-then-hit c =
    let row : List Held = c.args.row.now in
    let at = c.loop-at.at in
    let reached = c.is_reached.ensures.0 c.loop-at-test.true in (
      omega (arith, c.loop-at.invariant.0),
      hit_more (hits c.args.grants.now c.args.start c.args.resource.now) row at c.loop-at.least
          (get_or row (at - 1) no_held) c.lesser.result reached.0 c.loop-at.invariant.0
          (get_or_default row (at - 1) (get_or row (at - 1) no_held) no_held
          (omega (arith, reached.0, c.loop-at.invariant.0))) (sym c.hit.ensures ∙ c.if-hit.true) c.lesser.ensures
          c.loop-at.invariant.1,
    )

pub returns : goal.returns
returns c =
    hits_reached c.args.grants.now c.args.start c.args.resource.now c.args.row.now c.loop-at.at c.loop-at.least c.requires
    c.loop-at.invariant.0
    (λ reaches. both_ways c.is_reached.result c.loop-at-test.false (c.is_reached.ensures.1 reaches))
    c.loop-at.invariant.1
