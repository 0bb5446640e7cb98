use Rattle.std.proofs.Common.{◌≡◌, ℕ, List, [], map, vec_capacity, sym, ap, ◌∙◌, refl, subst, arith}
use Rattle.bundle_model.specs.declared.world.Grant.{Grant}
use Rattle.vep_manager.specs.declared.setup.Setup.{Setup}
use Rattle.vep_manager.specs.inner.Shelf.{Shelf}
use Rattle.vep_manager.specs.inner.Owned.{Kept, IsIndex}
use Rattle.vep_manager.proofs.SetupLemmas.{sound_world}
use Rattle.vep_manager.proofs.Indexed.{index_none}
use Rattle.vep_manager.proofs.owners.OwnerIndex.new.Goals as goal

pub invariant_of-result : goal.invariant_of-result
invariant_of-result c =
    let setup : Setup = c.args.setup.now in
    let rooms : List ℕ = c.in_ok-rooms.rooms.items in
    let kept : Kept = record {
      lists = c.in_ok-lists.lists.items;
      tiles = setup.world.platform.tiles;
      shelf = c.in_ok-rows.rows;
      room = vec_capacity c.in_ok-grants.grants;
    } in
    let shelf : c.in_ok-rows.rows ≡ record { rows = map (λ (room : ℕ). []) rooms; rooms = rooms } =
    c.in_ok-rows.ensures
    ∙ ap (λ (l : List ℕ). let s : Shelf = record { rows = map (λ (room : ℕ). []) l; rooms = l } in s)
    c.as_slice-2.ensures.value in
    let index = index_none setup rooms kept c.in_ok-rooms.ensures c.in_ok-lists.ensures refl shelf
    (sound_world setup c.requires).few (omega (arith, c.in_ok-grants.ensures.capacity, c.len.ensures)) in
    subst (λ (l : List Grant). IsIndex setup l kept) (sym c.in_ok-grants.ensures.items) index
