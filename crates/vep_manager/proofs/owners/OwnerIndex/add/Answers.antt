use Rattle.std.proofs.Common.{◌≡◌, List, [], ◌∷◌, ◌++◌, length, vec_capacity, sym, ap, ◌∙◌, subst, arith}
use Rattle.bundle_model.specs.declared.resource.Resource.{Resource}
use Rattle.bundle_model.specs.declared.world.Grant.{Grant}
use Rattle.vep_manager.specs.declared.setup.Setup.{Setup}
use Rattle.vep_manager.specs.Owners.{Owners, CanAdd}
use Rattle.vep_manager.specs.inner.Claims.{claimed_at}
use Rattle.vep_manager.specs.inner.Owned.{Kept, IsIndex, HoldsMore, count_in}
use Rattle.vep_manager.proofs.Indexed.{few_with, fits_with, index_with}
use Rattle.vep_manager.proofs.owners.OwnerIndex.add.Goals as goal

pub overflow_cast-place : goal.overflow_cast-place
overflow_cast-place c =
    let kept : Kept = record {
      lists = c.self.inside.lists.items;
      tiles = c.self.inside.tiles;
      shelf = c.self.inside.rows;
      room = vec_capacity c.self.inside.grants;
    } in
    let can = subst (λ (o : Owners). CanAdd o c.args.grant.now) (sym c.self.view_is) c.requires.can in
    let few = few_with c.self.inside.setup.now c.self.inside.grants.items kept c.args.grant.now c.self.invariant can in
    omega (arith, few, c.self.invariant.few, c.len-place.ensures, c.self.inside.grants.ok.0)

pub hold-requires-clause-fits : goal.hold-requires-clause-fits
hold-requires-clause-fits c n below =
    let setup : Setup = c.self.inside.setup.now in
    let kept : Kept = record {
      lists = c.self.inside.lists.items;
      tiles = c.self.inside.tiles;
      shelf = c.self.inside.rows;
      room = vec_capacity c.self.inside.grants;
    } in
    let can = subst (λ (o : Owners). CanAdd o c.args.grant.now) (sym c.self.view_is) c.requires.can in
    let fits = fits_with setup c.self.inside.grants.items kept c.args.grant.now c.self.invariant can n below in
    let same : c.args.setup.now ≡ setup = c.requires.same ∙ sym (ap (λ (o : Owners). o.setup) c.self.view_is) in
    let rows = length c.self.inside.rows.rows in
    let tiles = ap (λ (s : Setup). count_in s.world.platform.tiles rows n c.held_by.result.now) same in
    let list = ap (count_in setup.world.platform.tiles rows n)
    (c.held_by.ensures setup.world (c.as_slice.ensures.value ∙ c.self.invariant.lists)) in
    omega (arith, fits, tiles, list)

pub push_reserved-requires : goal.push_reserved-requires
push_reserved-requires c =
    let kept : Kept = record {
      lists = c.self.inside.lists.items;
      tiles = c.self.inside.tiles;
      shelf = c.self.inside.rows;
      room = vec_capacity c.self.inside.grants;
    } in
    let can = subst (λ (o : Owners). CanAdd o c.args.grant.now) (sym c.self.view_is) c.requires.can in
    let few = few_with c.self.inside.setup.now c.self.inside.grants.items kept c.args.grant.now c.self.invariant can in
    omega (arith, few, c.self.invariant.grants_fit, c.self.inside.grants.ok.0)

pub invariant_of-self : goal.invariant_of-self
invariant_of-self c =
    let setup : Setup = c.self.inside.setup.now in
    let grants : List Grant = c.self.inside.grants.items in
    let grant : Grant = c.args.grant.now in
    let kept : Kept = record {
      lists = c.self.inside.lists.items;
      tiles = c.self.inside.tiles;
      shelf = c.self.inside.rows;
      room = vec_capacity c.self.inside.grants;
    } in
    let can = subst (λ (o : Owners). CanAdd o grant) (sym c.self.view_is) c.requires.can in
    let same : c.args.setup.now ≡ setup = c.requires.same ∙ sym (ap (λ (o : Owners). o.setup) c.self.view_is) in
    let list : c.held_by.result.now ≡ claimed_at setup.world grant.bundle =
    c.held_by.ensures setup.world (c.as_slice.ensures.value ∙ c.self.invariant.lists) in
    let place : c.len-place.result ≡ length grants = omega (arith, c.len-place.ensures, c.self.inside.grants.ok.0) in
    let by_tiles = subst (λ (s : Setup). HoldsMore s.world.platform.tiles c.held_by.result.now c.len-place.result
    c.self.inside.rows c.hold.new.rows) same c.hold.ensures in
    let by_list = subst (λ (l : List Resource). HoldsMore setup.world.platform.tiles l c.len-place.result
    c.self.inside.rows c.hold.new.rows) list by_tiles in
    let more = subst (λ k. HoldsMore setup.world.platform.tiles (claimed_at setup.world grant.bundle) k
    c.self.inside.rows c.hold.new.rows) place by_list in
    let index : IsIndex setup (grants ++ grant ∷ []) (record kept { shelf = c.hold.new.rows }) =
    index_with setup grants kept grant c.self.invariant can c.hold.new.rows more in
    let by_room = subst (λ r. IsIndex setup (grants ++ grant ∷ []) (record kept { shelf = c.hold.new.rows; room = r }))
    (sym c.push_reserved.ensures.capacity) index in
    subst (λ (l : List Grant). IsIndex setup l
    (record kept { shelf = c.hold.new.rows; room = vec_capacity c.push_reserved.new.self }))
    (sym c.push_reserved.ensures.items) by_room
