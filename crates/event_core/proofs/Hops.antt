-- Hop by hop equals delay: what is delivered was injected as many slots before as the path has links.
use Rattle.std.proofs.Common.{◌≡◌, ℕ, zero, suc, ◌+◌, ◌-◌, ◌*◌, ◌%◌, ◌<◌, ◌≤◌, true, List, length, get_or, slice_get, Some, refl, sym, ap, ◌∙◌, inl, inr, arith}
use Rattle.std.proofs.lemmas.Bool.{cases_order}
use Rattle.soc_base.specs.Time.{is_among}
use Rattle.soc_base.specs.Port.{WordAndCredits, idle, inject}
use Rattle.bundle_model.specs.declared.bundle.Bundle.{Bundle}
use Rattle.bundle_model.specs.declared.world.World.{World}
use Rattle.bundle_model.specs.declared.world.LoadName.{LoadName}
use Rattle.bundle_model.specs.declared.world.Grant.{Grant}
use Rattle.bundle_model.specs.Ways.{Way, ways_of}
use Rattle.bundle_model.proofs.Laws.{way_at, end_on_tile}
use Rattle.tdm_network.specs.declared.routing.Delivery.{Delivery}
use Rattle.tdm_network.specs.Routing.{routed}
use Rattle.grant_tables.specs.Claims.{Injection, Arrival}
use Rattle.grant_tables.specs.Entries.{last_input}
use Rattle.grant_tables.specs.Law.{DeliveriesAre}
use Rattle.grant_tables.proofs.Laws.{deliveries_are_read}
use Rattle.alone_model.specs.Network.{port_of, flit_on}
use Rattle.alone_model.specs.App.{AppState, alone_at}
use Rattle.alone_model.proofs.Laws.{alone_begins, alone_next, next_hop, first_hop}
use Rattle.tile_core.specs.Lockstep.{machine_at}
use Rattle.event_core.specs.Links.{ready_at, delivered_at, injected_at, HopsAreDelay, IsOwnDelivery, NothingElseArrives}
use Rattle.event_core.proofs.Settled.{IsSettled, begun_by, well}
use Rattle.event_core.proofs.Rows.{row_later, rows_before}
use Rattle.event_core.proofs.Flits.{among_slots, back_injection}
use Rattle.event_core.proofs.Ports.{inputs_on, last_link}
use Rattle.event_core.proofs.Follows.{ready_slot, ready_sound}
use Rattle.event_core.proofs.Sending.{injected_now}
use Rattle.event_core.proofs.Links.{slot_is}
use Rattle.event_core.proofs.Machine.{machine_follows}

module _ (world : World) (bundle : Bundle) (start number : ℕ) (way : Way) (there : slice_get (ways_of bundle) number ≡ Some way) where
  -- an application alone, at the beginning of a slot
  abbrev app : ℕ → AppState
  app slot = alone_at world.platform bundle start slot

  abbrev first : ℕ
  first = start * world.platform.slot_cycles

  -- what flies on a link of a path was injected so many slots before
  pub flies : (since hop : ℕ) → start ≤ since → hop < length way.path → is_among (since % world.platform.table_slots) way.slots ≡ true
      → flit_on (app (since + 1 + hop)).flying (since + 1 + hop) number hop ≡ (inject (port_of (app since).parts way.from)).0
  flies since zero begun low among =
      let e : since + 1 ≡ since + 1 + 0 = omega arith in
      ap (λ n. flit_on (app n).flying n number 0) (sym e)
      ∙ ap (λ (a : AppState). flit_on a.flying (since + 1) number 0) (alone_next world.platform bundle start since begun)
      ∙ first_hop world.platform bundle first since number way (app since) there low among
  flies since (suc hop) begun low among =
      let e : since + 1 + hop + 1 ≡ since + 1 + suc hop = omega arith in
      ap (λ n. flit_on (app n).flying n number (suc hop)) (sym e)
      ∙ ap (λ (a : AppState). flit_on a.flying (since + 1 + hop + 1) number (suc hop)) (alone_next world.platform bundle start (since + 1 + hop) (omega arith))
      ∙ next_hop world.platform bundle first (since + 1 + hop) number hop way (app (since + 1 + hop)) there low
      ∙ flies since hop begun (omega arith) among

  -- at the start nothing flies
  still : (slot hop : ℕ) → start ≡ slot → flit_on (app slot).flying slot number hop ≡ idle
  still slot hop same =
      ap (λ n. flit_on (app n).flying slot number hop) (sym same)
      ∙ ap (λ (a : AppState). flit_on a.flying slot number hop) (alone_begins world.platform bundle start)

  -- and nothing flies on a link that would have been injected before the start
  pub none_flies : (slot hop : ℕ) → slot ≤ start + hop → start ≤ slot → hop < length way.path → flit_on (app slot).flying slot number hop ≡ idle
  none_flies slot zero early begun low = still slot zero (omega arith)
  none_flies slot (suc hop) early begun low = elim (cases_order start slot) [
    | inl same ↦ still slot (suc hop) same
    | inr (inl before) ↦
        let e : slot - 1 + 1 ≡ slot = omega arith in
        ap (λ n. flit_on (app n).flying n number (suc hop)) (sym e)
        ∙ ap (λ (a : AppState). flit_on a.flying (slot - 1 + 1) number (suc hop)) (alone_next world.platform bundle start (slot - 1) (omega arith))
        ∙ next_hop world.platform bundle first (slot - 1) number hop way (app (slot - 1)) there low
        ∙ none_flies (slot - 1) hop (omega arith) (omega arith) (omega arith)
    | inr (inr behind) ↦ absurd (omega arith)
  ]

module _ (world : World) (loads : List LoadName) (grants : List Grant) (so : IsSettled world loads grants) where
  -- the flits at the inputs of a tile
  abbrev flits_at : ℕ → ℕ → List WordAndCredits
  flits_at slot tile = inputs_on world (machine_at world loads grants slot).carried tile

  -- what its tables say of deliveries, where it is ready
  deliveries_at : (slot tile : ℕ) → tile < world.platform.tiles → DeliveriesAre world grants (slot + 1) tile (ready_at world loads grants slot tile).tables slot (flits_at slot tile) (injected_at world loads grants slot tile)
  deliveries_at slot tile low =
      let follows = (machine_follows world loads grants slot so).tiles tile low in
      deliveries_are_read world grants (slot + 1) tile (ready_at world loads grants slot tile).tables slot (flits_at slot tile) (injected_at world loads grants slot tile)
      (ready_sound world loads grants slot tile ((machine_at world loads grants slot).tile tile) so follows)

  delivered_is : (slot tile : ℕ) → tile < world.platform.tiles → delivered_at world loads grants slot tile ≡ (routed (ready_at world loads grants slot tile).tables slot (flits_at slot tile) (injected_at world loads grants slot tile)).deliver
  delivered_is slot tile low =
      let follows = (machine_follows world loads grants slot so).tiles tile low in
      ap (λ u. (routed (ready_at world loads grants slot tile).tables u (flits_at slot tile) (injected_at world loads grants slot tile)).deliver)
      (ready_slot world loads grants slot tile ((machine_at world loads grants slot).tile tile) so follows)

  -- the flit that arrives at the end of a path, by when it was injected
  abbrev at_end : (slot : ℕ) → Injection world grants (slot + 1) → WordAndCredits
  at_end slot x = get_or (flits_at slot x.way.to.tile) (last_input world.platform x.way.path) idle

  own_flit : (since slot : ℕ) (x : Injection world grants (slot + 1)) → since + length x.way.path ≡ slot → x.holder.grant.start ≤ since → x.slot ≡ since % world.platform.table_slots → at_end slot x ≡ injected_at world loads grants since x.way.from.tile
  own_flit since slot x late begun row =
      let table = world.platform.table_slots in
      let formed = well world grants (slot + 1) x.holder so.sound.catalog in
      let way = way_at world.platform x.holder.bundle x.number x.way formed x.way_there in
      let some = way.path.some_link in
      let f : since + 1 + (length x.way.path - 1) ≡ slot = omega arith in
      let z = back_injection world grants (slot + 1) (since + 1) x (omega arith) (omega arith) in
      let follows = machine_follows world loads grants slot so in
      let then = machine_follows world loads grants since so in
      let from = then.tiles x.way.from.tile (end_on_tile world.platform x.holder.bundle x.way.from formed way.source) in
      last_link world grants slot so.apart so.sound.catalog (machine_at world loads grants slot).carried follows.links x (ap (λ n. (n + length x.way.path) % table) row ∙ row_later table since (length x.way.path) ∙ ap (λ n. n % table) late)
      ∙ ap (λ n. flit_on (alone_at world.platform x.holder.bundle x.holder.grant.start n).flying n x.number (length x.way.path - 1)) (sym f)
      ∙ flies world x.holder.bundle x.holder.grant.start x.number x.way x.way_there since (length x.way.path - 1) begun (omega arith) (among_slots world grants (slot + 1) x (since % table) row)
      ∙ sym {b = (inject (port_of (alone_at world.platform x.holder.bundle x.holder.grant.start since).parts x.way.from)).0} (injected_now world loads grants since ((machine_at world loads grants since).tile x.way.from.tile) z so from row)

  no_flit : (slot : ℕ) (x : Injection world grants (slot + 1)) → slot < x.holder.grant.start + length x.way.path → (x.slot + length x.way.path) % world.platform.table_slots ≡ slot % world.platform.table_slots → at_end slot x ≡ idle
  no_flit slot x early row =
      let way = way_at world.platform x.holder.bundle x.number x.way (well world grants (slot + 1) x.holder so.sound.catalog) x.way_there in
      let some = way.path.some_link in
      let follows = machine_follows world loads grants slot so in
      last_link world grants slot so.apart so.sound.catalog (machine_at world loads grants slot).carried follows.links x row
      ∙ none_flies world x.holder.bundle x.holder.grant.start x.number x.way x.way_there slot (length x.way.path - 1) (omega arith) (begun_by world grants slot x.holder) (omega arith)

  arrives : (since slot : ℕ) (x : Injection world grants (slot + 1)) → since + length x.way.path ≡ slot → x.holder.grant.start ≤ since → x.slot ≡ since % world.platform.table_slots
      → delivered_at world loads grants slot x.way.to.tile ≡ Some (record { port = x.way.to.port; flit = injected_at world loads grants since x.way.from.tile })
  arrives since slot x late begun row =
      let table = world.platform.table_slots in
      let formed = well world grants (slot + 1) x.holder so.sound.catalog in
      let way = way_at world.platform x.holder.bundle x.number x.way formed x.way_there in
      let low = end_on_tile world.platform x.holder.bundle x.way.to formed way.target in
      let a : Arrival world grants (slot + 1) (slot % table) x.way.to.tile = record {
        injection = x;
        tile_is = refl;
        row_is = ap (λ n. (n + length x.way.path) % table) row ∙ row_later table since (length x.way.path) ∙ ap (λ n. n % table) late;
      } in
      delivered_is slot x.way.to.tile low
      ∙ (deliveries_at slot x.way.to.tile low).told a
      ∙ ap (λ (flit : WordAndCredits). Some (let d : Delivery = record { port = x.way.to.port; flit = flit } in d)) (own_flit since slot x late begun row)

  own_delivery : (slot tile : ℕ) (delivery : Delivery) → tile < world.platform.tiles → delivered_at world loads grants slot tile ≡ Some delivery → IsOwnDelivery world loads grants slot tile delivery
  own_delivery slot tile delivery low is =
      let table = world.platform.table_slots in
      let known = (deliveries_at slot tile low).known delivery (sym (delivered_is slot tile low) ∙ is) in
      let x = known.0.injection in
      let flit : delivery.flit ≡ at_end slot x =
      sym (ap (λ (d : Delivery). d.flit) known.1) ∙ ap (λ t. get_or (flits_at slot t) (last_input world.platform x.way.path) idle) (sym known.0.tile_is) in
      record {
        arrival = known.0;
        port = ap (λ (d : Delivery). d.port) known.1;
        own = λ since late begun.
            let row : x.slot ≡ since % table = sym (slot_is world grants loads (slot + 1) x so) ∙ rows_before table x.slot since (length x.way.path) world.platform.table_slots_in_range.0 (known.0.row_is ∙ ap (λ n. n % table) (sym late)) in
            flit ∙ own_flit since slot x late begun row;
        none = λ early. flit ∙ no_flit slot x early known.0.row_is;
      }

pub hops_are_delay : HopsAreDelay
hops_are_delay world loads grants since slot x sound apart of late begun row =
    let so : IsSettled world loads grants = record { sound = sound; apart = apart; of_loads = of } in
    arrives world loads grants so since slot x late begun row

pub nothing_else_arrives : NothingElseArrives
nothing_else_arrives world loads grants slot tile delivery sound apart of low is =
    let so : IsSettled world loads grants = record { sound = sound; apart = apart; of_loads = of } in
    own_delivery world loads grants so slot tile delivery low is
