-- A part over a slot, as its tile has it and by itself.
use Rattle.std.proofs.Common.{◌≡◌, ℕ, ◌+◌, ◌*◌, Bool, true, false, cond, List, slice_get, Option, Some, None, IsSome, option_and_then, refl, sym, subst, ap, ap₂, ◌∙◌, inl, inr}
use Rattle.std.specs.Option.{option_map_or}
use Rattle.std.proofs.lemmas.Bool.{true≢false, false≢true, false_from_ne_true, cases_Bool}
use Rattle.std.proofs.lemmas.Option.{none-some, option_and_then_some}
use Rattle.soc_base.specs.Port.{WordAndCredits, idle}
use Rattle.soc_base.specs.Time.{FrameTimes}
use Rattle.soc_base.proofs.Laws.{steps_still}
use Rattle.platform_model.specs.declared.costs.Costs.{Costs}
use Rattle.platform_model.specs.Platform.{frame_of}
use Rattle.bundle_model.specs.declared.bundle.Part.{Part}
use Rattle.bundle_model.specs.declared.world.World.{World}
use Rattle.bundle_model.specs.declared.world.LoadName.{LoadName}
use Rattle.bundle_model.specs.declared.world.Grant.{Grant}
use Rattle.bundle_model.specs.Grants.{stands_at}
use Rattle.bundle_model.specs.World.{part_on}
use Rattle.part_model.specs.Part.{PartState}
use Rattle.tdm_network.specs.declared.rows.Row.{Row}
use Rattle.tdm_network.specs.Rows.{injecting}
use Rattle.tdm_network.specs.Routing.{routed}
use Rattle.grant_tables.specs.Tables.{tables_after}
use Rattle.tile_core.specs.Tile.{TileState, load_part}
use Rattle.tile_core.specs.Slot.{grant_of, begins_in, with_grants, traffic}
use Rattle.tile_core.specs.Fit.{granted_cycle, granted_from}
use Rattle.tile_core.specs.Views.{Exchange, sent, reached, with_own, view_step, view_cycles, granted_cycles, opening_view, opened_view, view_slot, slot_exchange, place_grant, views_slot}
use Rattle.tile_core.proofs.Ports.{with_own_if}
use Rattle.tile_core.proofs.Standing.{AreLabelled, touched_is, if_stands, standing_is, first_cycle}
use Rattle.tile_core.proofs.Folding.{touches}
use Rattle.tile_core.proofs.Starting.{opened, views_with}
use Rattle.grant_tables.proofs.Laws.{begun_stands}

-- the load at a place that has a grant
granted_load : (grants : List Grant) (t : TileState) (place : ℕ) (grant : Grant) → place_grant grants t place ≡ Some grant → (load : LoadName) × (slice_get t.loads place ≡ Some load) × (grant_of grants load.label ≡ Some grant)
granted_load grants t place grant granted =
    option_and_then_some (λ (load : LoadName). grant_of grants load.label) (slice_get t.loads place) grant granted (λ load there found. (load, there, found))

-- where its grant stands at a slot, it is granted from the grant's start on
pub granted_is : (world : World) (grants : List Grant) (slot : ℕ) (t : TileState) (place : ℕ) (grant : Grant) → AreLabelled grants → place_grant grants t place ≡ Some grant → stands_at slot grant ≡ true → granted_from world grants slot t place ≡ Some (grant.start * world.platform.slot_cycles)
granted_is world grants slot t place grant labelled granted stands =
    let load = granted_load grants t place grant granted in
    let len = world.platform.slot_cycles in
    ap (λ (o : Option LoadName). option_and_then (granted_cycle world grants slot) o) load.1
    ∙ ap (first_cycle len) (standing_is slot load.0.label grants labelled)
    ∙ ap (λ (o : Option Grant). first_cycle len (if_stands slot o)) load.2
    ∙ ap (λ b. first_cycle len (cond b (Some grant) None)) stands

-- a part is opened by its own grant
pub opened_is : (world : World) (grants : List Grant) (t : TileState) (view : ℕ → PartState) (place : ℕ) (part : Part) (grant : Grant) → AreLabelled grants → load_part world t place ≡ Some part → place_grant grants t place ≡ Some grant → views_with world (begins_in t.at) grants t.loads (load_part world t) view place ≡ opened_view world t.at grant part (view place)
opened_is world grants t view place part grant labelled is granted =
    let load = granted_load grants t place grant granted in
    let test : touches (begins_in t.at) grants (slice_get t.loads place) ≡ begins_in t.at grant =
    ap (touches (begins_in t.at) grants) load.1
    ∙ touched_is (begins_in t.at) load.0.label grants labelled
    ∙ ap (λ (o : Option Grant). option_map_or (begins_in t.at) o false) load.2 in
    ap₂ (λ (b : Bool) (o : Option Part). cond b (opened world o (view place)) (view place)) test is

-- what the network does with the ports of a tile in its slot
abbrev pub exchange_of : World → List Grant → List WordAndCredits → TileState → Exchange
exchange_of world grants inputs t =
    let ready = with_grants world grants t in
    record { sends = injecting ready.tables ready.at; receives = (traffic inputs ready).deliver }

-- it is told by the tile's number, its slot and its slot tables
pub exchange_is : (world : World) (grants : List Grant) (inputs : List WordAndCredits) (t : TileState) → (with_grants world grants t).tables ≡ tables_after world t.number grants t.at t.tables → (with_grants world grants t).at ≡ t.at → exchange_of world grants inputs t ≡ slot_exchange world grants inputs t
exchange_is world grants inputs t tables at =
    let exchange : List Row → ℕ → Exchange = λ rows slot. record { sends = injecting rows slot; receives = (routed rows slot inputs idle).deliver } in
    ap₂ exchange tables at

-- an application that isn't granted stays as it is
view_still : (times : FrameTimes) (costs : Costs) (part : Option Part) (c n : ℕ) (view : PartState) → view_cycles times costs None part c n view ≡ view
view_still times costs part c n view = steps_still (λ (cycle : ℕ) (s : PartState). view_step times costs cycle None part s) c n view (λ cycle. refl)

-- a part over the rest of a slot: its ports inject, it has the cycles, and its ports receive
abbrev pub rest_view : World → ℕ → Exchange → Option ℕ → Option Part → PartState → PartState
rest_view world slot exchange granted part view =
    let len = world.platform.slot_cycles in
    with_own_if (reached exchange) granted part
    (view_cycles (frame_of world.platform) world.platform.costs granted part (slot * len) len (with_own_if (sent exchange) granted part view))

-- the part of a load after a slot, where its grant is this one
one_view : (world : World) (slot : ℕ) (exchange : Exchange) (grant : Option Grant) (part : Part) (view : PartState) → rest_view world slot exchange (first_cycle world.platform.slot_cycles (if_stands (slot + 1) grant)) (Some part) (cond (option_map_or (begins_in slot) grant false) (opening_view world part view.log) view) ≡ view_slot world slot exchange grant (Some part) view
one_view world slot exchange None part view = view_still (frame_of world.platform) world.platform.costs (Some part) (slot * world.platform.slot_cycles) world.platform.slot_cycles view
one_view world slot exchange (Some grant) part view =
    let len = world.platform.slot_cycles in
    let start = opened_view world slot grant part view in
    let went = with_own (reached exchange) part (granted_cycles world (grant.start * len) part (slot * len) len (with_own (sent exchange) part start)) in
    let P : Bool → Type 0 = λ b. rest_view world slot exchange (first_cycle len (cond b (Some grant) None)) (Some part) start ≡ cond b went view in
    elim (cases_Bool (stands_at (slot + 1) grant)) [
      | inl stands ↦ subst P (sym stands) refl
      | inr gone ↦
          let early : begins_in slot grant ≡ false = false_from_ne_true (begins_in slot grant) (λ begins. true≢false (sym (begun_stands slot grant begins) ∙ gone)) in
          subst P (sym gone) (view_still (frame_of world.platform) world.platform.costs (Some part) (slot * len) len start ∙ ap (λ b. cond b (opening_view world part view.log) view) early)
    ]

load_view : (world : World) (grants : List Grant) (slot : ℕ) (exchange : Exchange) (load : Option LoadName) (part : Part) (view : PartState) → AreLabelled grants → IsSome load → rest_view world slot exchange (option_and_then (granted_cycle world grants (slot + 1)) load) (Some part) (cond (touches (begins_in slot) grants load) (opening_view world part view.log) view) ≡ view_slot world slot exchange (option_and_then (λ (l : LoadName). grant_of grants l.label) load) (Some part) view
load_view world grants slot exchange None part view labelled there = absurd (false≢true there)
load_view world grants slot exchange (Some load) part view labelled there =
    let o = grant_of grants load.label in
    ap₂ (λ (from : Option ℕ) (b : Bool). rest_view world slot exchange from (Some part) (cond b (opening_view world part view.log) view)) (ap (first_cycle world.platform.slot_cycles) (standing_is (slot + 1) load.label grants labelled)) (touched_is (begins_in slot) load.label grants labelled)
    ∙ one_view world slot exchange o part view

some_load : (world : World) (number : ℕ) (load : Option LoadName) (part : Part) → option_and_then (λ (l : LoadName). part_on world number l.bundle) load ≡ Some part → IsSome load
some_load world number None part is = absurd (none-some part is)
some_load world number (Some load) part is = refl

-- the views after the grants and the rest of a slot are those of the parts after the slot
pub views_are : (world : World) (grants : List Grant) (inputs : List WordAndCredits) (t : TileState) (exchange : Exchange) (view : ℕ → PartState) (place : ℕ) (part : Part) → AreLabelled grants → exchange ≡ slot_exchange world grants inputs t → load_part world t place ≡ Some part → views_slot world grants inputs t view place ≡ rest_view world t.at exchange (granted_from world grants (t.at + 1) t place) (load_part world t place) (views_with world (begins_in t.at) grants t.loads (load_part world t) view place)
views_are world grants inputs t exchange view place part labelled same is =
    let P : Option Part → Type 0 = λ o. view_slot world t.at (slot_exchange world grants inputs t) (place_grant grants t place) o (view place) ≡ rest_view world t.at exchange (granted_from world grants (t.at + 1) t place) o (cond (touches (begins_in t.at) grants (slice_get t.loads place)) (opened world o (view place)) (view place)) in
    subst P (sym is)
    (ap (λ (e : Exchange). view_slot world t.at e (place_grant grants t place) (Some part) (view place)) (sym same)
    ∙ sym (load_view world grants t.at exchange (slice_get t.loads place) part (view place) labelled (some_load world t.number (slice_get t.loads place) part is)))
