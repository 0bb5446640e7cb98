use Rattle.std.proofs.Common.{◌≡◌, ◌<◌, List, length, ℕ, Option, sym, ap, ◌∙◌, subst, arith}
use Rattle.std.specs.Prelude.{IfSome}
use Rattle.std.specs.List.{position}
use Rattle.bundle_model.specs.declared.world.Grant.{Grant}
use Rattle.bundle_model.specs.Grants.{conflicts}
use Rattle.vep_manager.specs.declared.owners.held.Held.{Held}
use Rattle.vep_manager.specs.Owners.{Owners}
use Rattle.vep_manager.specs.inner.Held.{IsInOrder, IsLeastHit, hits}
use Rattle.vep_manager.specs.inner.Places.{row_of}
use Rattle.vep_manager.proofs.FirstOwner.{first_is, position_within}
use Rattle.vep_manager.proofs.owners.OwnerIndex.first.Goals as goal
use Rattle.vep_manager.proofs.owners.OwnerIndex.first.Goals.{After-least_hit}

pub least_hit-requires : goal.least_hit-requires
least_hit-requires c =
    subst IsInOrder (sym c.row-row.ensures) (c.self.invariant.filled.in_order c.row_number.result
    (omega (arith, c.row_number.ensures.within, c.len.ensures)))

is_first : (c : After-least_hit) → c.least_hit.result
    ≡ position (conflicts c.args.self.now.setup.world c.args.start c.args.resource.now) c.args.self.now.grants
is_first c =
    let rows : List (List Held) = c.self.inside.rows.rows in
    let n : ℕ = c.row_number.result in
    let by_grants = subst (λ (l : List Grant). IsLeastHit (hits l c.args.start c.args.resource.now) c.row-row.result.now 0
    c.least_hit.result) c.as_slice.ensures.value c.least_hit.ensures in
    let least = subst (λ (r : List Held). IsLeastHit (hits c.self.inside.grants.items c.args.start c.args.resource.now) r 0
    c.least_hit.result) c.row-row.ensures by_grants in
    let is : n ≡ row_of c.self.inside.setup.now.world.platform.tiles (length rows) c.args.resource.now =
    c.row_number.ensures.row ∙ ap (λ k. row_of c.self.inside.tiles k c.args.resource.now) c.len.ensures
    ∙ ap (λ t. row_of t (length rows) c.args.resource.now) c.self.invariant.tiles in
    first_is c.self.inside.setup.now c.self.inside.grants.items rows c.args.resource.now c.args.start n
    c.self.invariant.filled (omega (arith, c.row_number.ensures.within, c.len.ensures)) is c.least_hit.result least
    ∙ ap (λ (o : Owners). position (conflicts o.setup.world c.args.start c.args.resource.now) o.grants) c.self.view_is

pub returns-clause-first : goal.returns-clause-first
returns-clause-first c = is_first c

pub returns-clause-within : goal.returns-clause-within
returns-clause-within c =
    subst (λ (o : Option ℕ). IfSome o (λ place. place < length c.args.self.now.grants)) (sym (is_first c))
    (position_within (conflicts c.args.self.now.setup.world c.args.start c.args.resource.now) c.args.self.now.grants)
