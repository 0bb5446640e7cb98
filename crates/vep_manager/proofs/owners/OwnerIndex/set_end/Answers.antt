use Rattle.std.proofs.Common.{◌≡◌, ◌<◌, List, length, set, Some, sym, ap, ◌∙◌, refl, arith, vec_capacity}
use Rattle.bundle_model.specs.declared.world.Grant.{Grant}
use Rattle.vep_manager.specs.Owners.{Owners, with_end}
use Rattle.vep_manager.specs.inner.Owned.{Kept}
use Rattle.vep_manager.proofs.Indexed.{index_changed, with_end_is}
use Rattle.vep_manager.proofs.owners.OwnerIndex.set_end.Goals as goal
use Rattle.vep_manager.proofs.owners.OwnerIndex.set_end.Goals.{After-index_mut-grant}

there : (c : After-index_mut-grant) → c.from.result < length c.self.inside.grants.items
there c = omega (arith, c.requires, ap (λ (o : Owners). length o.grants) c.self.view_is, c.from.ensures)

pub invariant_of-self : goal.invariant_of-self
invariant_of-self c =
    let h = (goal.at.invariant_of-self c).After-index_mut-grant in
    let kept : Kept = record {
      lists = h.self.inside.lists.items;
      tiles = h.self.inside.tiles;
      shelf = h.self.inside.rows;
      room = vec_capacity h.self.inside.grants;
    } in
    index_changed h.self.inside.setup.now h.self.inside.grants.items kept h.from.result h.index_mut-grant.result.now
    (record h.index_mut-grant.result.now { end = Some h.args.end }) h.self.invariant (there h)
    (sym h.index_mut-grant.ensures.value) refl

pub returns : goal.returns
returns c =
    let h = (goal.at.returns c).After-index_mut-grant in
    let old : Grant = h.index_mut-grant.result.now in
    let grants : List Grant = h.self.inside.grants.items in
    let ended : set grants h.from.result (record old { end = Some h.args.end }) ≡ with_end grants h.args.place h.args.end =
    sym (with_end_is grants h.from.result h.args.end old (there h) (sym h.index_mut-grant.ensures.value))
    ∙ ap (λ k. with_end grants k h.args.end) h.from.ensures in
    ap (λ (l : List Grant). let o : Owners = record { setup = h.self.inside.setup.now; grants = l } in o) ended
    ∙ ap (λ (o : Owners). let ended : Owners = record { setup = o.setup; grants = with_end o.grants h.args.place h.args.end } in ended)
    h.self.view_is
