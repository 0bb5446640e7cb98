use Rattle.std.proofs.Common.{List, get_or, ap, arith}
use Rattle.std.proofs.lemmas.List.{get_or_default}
use Rattle.vep_manager.specs.inner.Places.{high_of}
use Rattle.vep_manager.specs.declared.owners.held.Held.{Held}
use Rattle.vep_manager.proofs.HeldOrder.{no_held, reached_order, reached_alike}
use Rattle.vep_manager.proofs.owners.held.reach_on.Goals as goal

pub returns-clause-order : goal.returns-clause-order
returns-clause-order c =
    let row : List Held = c.args.row.now in
    let reach = ap (λ (h : Held). h.reach) c.with_reach.ensures in
    let high = ap (λ (h : Held). high_of h.resource) c.with_reach.ensures in
    reached_order row c.args.at (get_or row c.args.at no_held) c.with_reach.result c.requires.inside
    (λ d. get_or_default row c.args.at d no_held c.requires.inside)
    (ap (λ (h : Held). h.resource) c.with_reach.ensures)
    (omega (arith, reach, high, c.max-reach.ensures, c.high.ensures))
    (λ some d. let before = c.reach_before.ensures some d in omega (arith, before, reach, c.max-reach.ensures))
    c.requires.here c.requires.order

pub returns-clause-held : goal.returns-clause-held
returns-clause-held c =
    let row : List Held = c.args.row.now in
    reached_alike row c.args.at (get_or row c.args.at no_held) c.with_reach.result c.requires.inside
    (λ d. get_or_default row c.args.at d no_held c.requires.inside)
    (ap (λ (h : Held). h.resource) c.with_reach.ensures) (ap (λ (h : Held). h.grant) c.with_reach.ensures)
