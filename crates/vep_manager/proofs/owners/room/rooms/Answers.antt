use Rattle.std.proofs.Common.{◌≡◌, ℕ, ◌+◌, ◌*◌, ◌≤◌, List, ◌++◌, length, get_or, take, drop, ap, sym, subst, arith}
use Rattle.std.specs.List.{All}
use Rattle.std.proofs.lemmas.List.{get_or_default, with_items_is}
use Rattle.bundle_model.specs.declared.resource.Resource.{Resource}
use Rattle.bundle_model.specs.declared.world.LoadName.{LoadName}
use Rattle.bundle_model.specs.declared.world.World.{World}
use Rattle.vep_manager.specs.inner.Claims.{claimed_at}
use Rattle.vep_manager.specs.inner.Owned.{row_count}
use Rattle.vep_manager.proofs.Holding.{HaveRisen, AreCounted, rooms_more, claimed_few}
use Rattle.vep_manager.proofs.SetupLemmas.{sound_world}
use Rattle.vep_manager.proofs.owners.room.rooms.Goals as goal
use Rattle.vep_manager.proofs.owners.room.rooms.Goals.{After-held_by, After-count_list}

abbrev no_load : LoadName
no_load = record { label = record { session = 0; load = 0 }; bundle = 0 }

few_here : (c : After-held_by) → length c.held_by.result.now ≤ 4096
few_here c =
    let load : LoadName = get_or c.as_slice-load-items.result.now c.loop-load.load-index no_load in
    let few = claimed_few c.args.setup.now.world load.bundle c.requires.sound.catalog in
    omega (arith, few, ap length (c.held_by.ensures c.args.setup.now.world c.requires.lists))

pub count_list-requires-clause-low : goal.count_list-requires-clause-low
count_list-requires-clause-low c = λ k d below.
    let few = few_here c in
    let low = subst (λ (l : List ℕ). All (λ count. count ≤ 4096 * c.loop-load.load-index) l)
    (sym c.as_mut_slice.ensures.value) c.loop-load.invariant.1.low k d below in
    let loads = (sound_world c.args.setup.now c.requires.sound).few in
    omega (arith, few, low, loads, c.loop-load-test.true, ap length c.as_slice-load-items.ensures)

new_is : (c : After-count_list)
    → take c.loop-load.counts.len (c.count_list.new.counts ++ drop (length c.count_list.new.counts) c.loop-load.counts.items)
    ≡ c.count_list.new.counts
new_is c =
    with_items_is c.loop-load.counts c.count_list.new.counts
    (omega (arith, c.count_list.ensures.len, ap length c.as_mut_slice.ensures.value, c.loop-load.counts.ok))

pub loop-load-preserved : goal.loop-load-preserved
loop-load-preserved c =
    let h = (goal.at.loop-load-preserved c).After-count_list in
    let g = (goal.at.loop-load-preserved c).After-held_by in
    let world : World = h.args.setup.now.world in
    let loads : List LoadName = h.as_slice-load-items.result.now in
    let index : ℕ = h.loop-load.load-index in
    let old : List ℕ = h.loop-load.counts.items in
    let new : List ℕ = h.count_list.new.counts in
    let load : LoadName = get_or loads index no_load in
    let len : length new ≡ length old = omega (arith, h.count_list.ensures.len, ap length h.as_mut_slice.ensures.value) in
    let list : List Resource = h.held_by.result.now in
    let list_is : list ≡ claimed_at world load.bundle =
    h.held_by.ensures world h.requires.lists in
    let tiles : ℕ = world.platform.tiles in
    let risen = subst (λ (l : List ℕ). HaveRisen tiles list l new) h.as_mut_slice.ensures.value
    (record { as_many = h.count_list.ensures.len; rose = h.count_list.ensures.counted }) in
    let more = rooms_more world loads index load old new list h.loop-load-test.true
    (get_or_default loads index load no_load h.loop-load-test.true) (record { claimed = list_is; few = few_here g }) risen
    h.loop-load.invariant.1 in
    subst (λ (l : List ℕ). (length l ≡ row_count world.platform) × AreCounted world loads (index + 1) l) (sym (new_is h))
    (omega (arith, len, h.loop-load.invariant.0), more)
