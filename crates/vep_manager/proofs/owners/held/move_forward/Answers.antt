use Rattle.std.proofs.Common.{◌-◌, List, get_or, ap, arith}
use Rattle.std.proofs.lemmas.List.{get_or_default}
use Rattle.vep_manager.specs.declared.owners.held.Held.{Held}
use Rattle.vep_manager.proofs.HeldOrder.{IsRaised, no_held, moved_order, moved_alike}
use Rattle.vep_manager.proofs.owners.held.move_forward.Goals as goal
use Rattle.vep_manager.proofs.owners.held.move_forward.Goals.{After-with_reach}

higher : (c : After-with_reach) → IsRaised (get_or c.args.row.now (c.args.at - 1) no_held) c.with_reach.result
higher c = record {
  resource = ap (λ (h : Held). h.resource) c.with_reach.ensures;
  grant = ap (λ (h : Held). h.grant) c.with_reach.ensures;
  reach = omega (arith, ap (λ (h : Held). h.reach) c.with_reach.ensures, c.max-reach.ensures);
}

pub returns-clause-order : goal.returns-clause-order
returns-clause-order c =
    let row : List Held = c.args.row.now in
    moved_order row c.args.at (c.args.at - 1) (get_or row c.args.at no_held) (get_or row (c.args.at - 1) no_held)
    c.with_reach.result (omega (arith, c.requires.before)) c.requires.inside
    (λ d. get_or_default row c.args.at d no_held c.requires.inside)
    (λ d. get_or_default row (c.args.at - 1) d no_held (omega (arith, c.requires.inside))) (higher c)
    (omega (arith, c.requires.before.1 no_held))
    (omega (arith, ap (λ (h : Held). h.reach) c.with_reach.ensures, c.max-reach.ensures, c.high.ensures))
    c.requires.order

pub returns-clause-held : goal.returns-clause-held
returns-clause-held c =
    let row : List Held = c.args.row.now in
    moved_alike row c.args.at (c.args.at - 1) (get_or row c.args.at no_held) (get_or row (c.args.at - 1) no_held)
    c.with_reach.result (omega (arith, c.requires.before)) c.requires.inside
    (λ d. get_or_default row c.args.at d no_held c.requires.inside)
    (λ d. get_or_default row (c.args.at - 1) d no_held (omega (arith, c.requires.inside))) (higher c)
