-- A link carries in the next slot what flies on it alone then.
use Rattle.std.proofs.Common.{◌≡◌, ℕ, zero, suc, ◌+◌, ◌*◌, ◌%◌, ◌<◌, List, get_or, slice_get, Some, refl, sym, subst, ap, ◌∙◌, inl, inr, arith}
use Rattle.std.proofs.lemmas.Option.{slice_get_within, slice_get-get_or}
use Rattle.soc_base.specs.Port.{WordAndCredits, idle}
use Rattle.platform_model.specs.declared.link.Link.{Link}
use Rattle.bundle_model.specs.declared.world.World.{World}
use Rattle.bundle_model.specs.declared.world.LoadName.{LoadName}
use Rattle.bundle_model.specs.declared.world.Grant.{Grant}
use Rattle.bundle_model.proofs.Laws.{at_place, way_at}
use Rattle.tdm_network.specs.Routing.{from_source, routed}
use Rattle.grant_tables.specs.Claims.{Injection}
use Rattle.grant_tables.specs.Entries.{link_of}
use Rattle.grant_tables.specs.Law.{source_of}
use Rattle.grant_tables.proofs.Laws.{outputs_are_read, link_is}
use Rattle.alone_model.specs.Network.{flit_on}
use Rattle.alone_model.specs.App.{AppState}
use Rattle.alone_model.proofs.Laws.{next_hop, first_hop}
use Rattle.tile_core.specs.Tile.{TileState}
use Rattle.tile_core.specs.Slot.{with_grants, injected_flit, slot_outputs}
use Rattle.event_core.specs.Links.{LinkFollows}
use Rattle.event_core.proofs.Settled.{IsSettled, well}
use Rattle.event_core.proofs.Rows.{row_before, row_is}
use Rattle.event_core.proofs.Wiring.{input_carries}
use Rattle.event_core.proofs.Flits.{alone_of, next_app, among_slots, link_now}
use Rattle.event_core.proofs.Ports.{LinksCarry, inputs_on}
use Rattle.event_core.proofs.Follows.{FollowsOn, ready_slot, ready_sound}
use Rattle.event_core.proofs.Sending.{injected_now}

-- an injection slot is a row of the tables
pub slot_is : (world : World) (grants : List Grant) (loads : List LoadName) (now : ℕ) (x : Injection world grants now) → IsSettled world loads grants → x.slot % world.platform.table_slots ≡ x.slot
slot_is world grants loads now x so =
    let way = way_at world.platform x.holder.bundle x.number x.way (well world grants now x.holder so.sound.catalog) x.way_there in
    row_is world.platform.table_slots x.slot (at_place (λ s. s < world.platform.table_slots) x.way.slots x.place x.slot way.slots x.slot_there)

module _ (world : World) (loads : List LoadName) (grants : List Grant) (slot : ℕ) (tile : TileState) (carried : Link → WordAndCredits) (so : IsSettled world loads grants) (links : LinksCarry world grants slot carried) where
  -- where a link of a path has its flit from, there stands what flies on it a slot later
  routed_now : (x : Injection world grants (slot + 1)) (hop number : ℕ) (link : Link) → slice_get x.way.path hop ≡ Some number → slice_get world.platform.links number ≡ Some link → FollowsOn world loads grants slot link.from tile
      → (x.slot + 1 + hop) % world.platform.table_slots ≡ (slot + 1) % world.platform.table_slots
      → from_source (inputs_on world carried link.from) (injected_flit (with_grants world grants tile)) (source_of world.platform x.way.path hop) ≡ flit_on (alone_of world grants (slot + 1) x.holder (slot + 1)).flying (slot + 1) x.number hop
  routed_now x zero number link there link_there follows row =
      let table = world.platform.table_slots in
      let e : x.slot + 1 ≡ x.slot + 1 + 0 = omega arith in
      let way = way_at world.platform x.holder.bundle x.number x.way (well world grants (slot + 1) x.holder so.sound.catalog) x.way_there in
      let is : x.slot ≡ slot % table = sym (slot_is world grants loads (slot + 1) x so) ∙ row_before table x.slot slot world.platform.table_slots_in_range.0 (ap (λ n. n % table) e ∙ row) in
      let at_source = subst (λ n. FollowsOn world loads grants slot n tile) (way.path.begins number link there link_there) follows in
      injected_now world loads grants slot tile x so at_source is
      ∙ sym (first_hop world.platform x.holder.bundle (x.holder.grant.start * world.platform.slot_cycles) slot x.number x.way (alone_of world grants (slot + 1) x.holder slot) x.way_there way.path.some_link (among_slots world grants (slot + 1) x (slot % table) is))
      ∙ sym (ap (λ (a : AppState). flit_on a.flying (slot + 1) x.number 0) (next_app world grants slot x.holder))
  routed_now x (suc hop) number link there link_there follows row =
      let table = world.platform.table_slots in
      let within = slice_get_within x.way.path (suc hop) number there in
      let e : x.slot + 1 + hop + 1 ≡ x.slot + 1 + suc hop = omega arith in
      let way = way_at world.platform x.holder.bundle x.number x.way (well world grants (slot + 1) x.holder so.sound.catalog) x.way_there in
      let before : ℕ = get_or x.way.path hop 0 in
      let before_there : slice_get x.way.path hop ≡ Some before = slice_get-get_or x.way.path hop 0 (omega arith) in
      let one = way.path.linked hop before before_there in
      let its : link_of world.platform before ≡ one.0 = link_is world.platform before one.0 one.1 in
      let joined = way.path.joined hop before number one.0 link before_there there one.1 link_there in
      ap (λ (l : Link). get_or (inputs_on world carried link.from) l.input idle) its
      ∙ ap (λ t. get_or (inputs_on world carried t) one.0.input idle) joined
      ∙ input_carries idle world.platform carried before one.0 one.1
      ∙ link_now world grants slot so.apart x hop before (carried one.0) before_there (row_before table (x.slot + 1 + hop) slot world.platform.table_slots_in_range.0 (ap (λ n. n % table) e ∙ row)) (links before one.0 one.1)
      ∙ sym (next_hop world.platform x.holder.bundle (x.holder.grant.start * world.platform.slot_cycles) slot x.number hop x.way (alone_of world grants (slot + 1) x.holder slot) x.way_there within)
      ∙ sym (ap (λ (a : AppState). flit_on a.flying (slot + 1) x.number (suc hop)) (next_app world grants slot x.holder))

  -- what a tile puts on an output is what its tables name
  outputs_are : (from out : ℕ) → FollowsOn world loads grants slot from tile
      → get_or (slot_outputs world grants (inputs_on world carried from) tile) out idle ≡ get_or (routed (with_grants world grants tile).tables slot (inputs_on world carried from) (injected_flit (with_grants world grants tile))).links out idle
  unfolding slot_outputs
  outputs_are from out follows =
      let ready = with_grants world grants tile in
      ap (λ u. get_or (routed ready.tables u (inputs_on world carried from) (injected_flit ready)).links out idle) (ready_slot world loads grants slot from tile so follows)

  -- so a link carries in the next slot what it is to
  pub link_next : (number : ℕ) (link : Link) → slice_get world.platform.links number ≡ Some link → FollowsOn world loads grants slot link.from tile
      → LinkFollows world grants (slot + 1) number (get_or (slot_outputs world grants (inputs_on world carried link.from) tile) link.out idle)
  link_next number link there follows =
      let ready = with_grants world grants tile in
      let inputs = inputs_on world carried link.from in
      let reads = outputs_are_read world grants (slot + 1) link.from ready.tables slot inputs (injected_flit ready) (ready_sound world loads grants slot link.from tile so follows) in
      let out = outputs_are link.from link.out follows in
      record {
        claimed = λ p. out ∙ reads.told number link there refl p ∙ routed_now p.injection p.hop number link p.link_there there follows p.row_is;
        free = λ none. elim (reads.known number link there refl) [
          | inl p ↦ absurd (none p)
          | inr nothing ↦ out ∙ nothing
        ];
      }
