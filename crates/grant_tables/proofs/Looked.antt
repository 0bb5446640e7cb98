-- What is looked up in tables of a tile that hold the entries of the standing grants: what their channels
-- claim there.
use Rattle.std.proofs.Common.{◌≡◌, ℕ, suc, ◌+◌, ◌<◌, ◌%◌, ◌⊎◌, List, length, get_or, slice_get, Option, Some, None, refl, sym, ap, ap₂, ◌∙◌, subst, inl, inr}
use Rattle.std.specs.Option.{option_map_or, option_and_then}
use Rattle.std.proofs.lemmas.Option.{same_Some, option_and_then_some}
use Rattle.soc_base.specs.Port.{WordAndCredits, idle}
use Rattle.platform_model.specs.declared.link.Link.{Link}
use Rattle.bundle_model.specs.declared.world.World.{World}
use Rattle.bundle_model.specs.declared.world.Grant.{Grant}
use Rattle.bundle_model.specs.World.{IsSoundCatalog}
use Rattle.bundle_model.specs.WellFormed.{IsWellFormedWay, IsWellFormed}
use Rattle.bundle_model.proofs.Laws.{sound_bundle, way_at}
use Rattle.tdm_network.specs.declared.entries.Entry.{Entry}
use Rattle.tdm_network.specs.declared.rows.Row.{Row}
use Rattle.tdm_network.specs.declared.routing.Delivery.{Delivery}
use Rattle.tdm_network.specs.Rows.{injecting}
use Rattle.tdm_network.specs.Routing.{from_source, routed}
use Rattle.tdm_network.specs.Spots.{Spot, Role, spots_of, spot_of, role_of, role_port, role_flit, role_delivery}
use Rattle.tdm_network.specs.Spots.Spot.{InjectRow, OutRow, DropRow}
use Rattle.tdm_network.specs.Spots.Role.{Sends, Receives}
use Rattle.tdm_network.proofs.Laws.{injecting_is, output_is, delivery_is}
use Rattle.grant_tables.specs.Entries.{Placed, link_of, slot_entries, last_input}
use Rattle.grant_tables.specs.Tables.{AreTabled}
use Rattle.grant_tables.specs.Claims.{Injection, Departure, Passage, Arrival}
use Rattle.grant_tables.specs.Law.{InjectsAreRead, OutputsAreRead, DeliveriesAreRead, source_of, arriving}
use Rattle.grant_tables.proofs.Wired.{one_link, link_is}
use Rattle.grant_tables.proofs.Sides.{inject_placed, link_placed, deliver_placed, IsPassing, slot_link, slot_deliver, entry_place, entry_there}
use Rattle.grant_tables.proofs.Grounds.{from_bundle, end_port}
use Rattle.grant_tables.proofs.Owners.{own_entry, entry_at}

module _ (world : World) (grants : List Grant) (now tile : ℕ) (rows : List Row) where
  -- an entry of an injection slot stands at its place on its tile
  placed_told : AreTabled world grants now tile rows → (i : Injection world grants now) (step : ℕ) (p : Placed) → slice_get (slot_entries world.platform i.way i.slot) step ≡ Some p → p.tile ≡ tile → spots_of rows (spot_of p.entry) ≡ Some (record { label = i.holder.grant.label; what = role_of p.entry })
  placed_told is i step p there on_tile =
      let holder = i.holder in
      let placed = entry_there world.platform holder.bundle i.way i.number i.place i.slot step p i.way_there i.slot_there there in
      let mine = entry_at world tile holder.grant holder.bundle (entry_place world.platform holder.bundle i.way i.number i.place step) p holder.bundled placed on_tile in
      is.told holder.grant.label p.entry (record { index = holder.index; grant = holder.grant; granted = holder.granted; stands = holder.stands; labelled = refl; place = mine.0; there = mine.1 })

  -- what stands at a place is an entry of an injection slot
  record IsFound (spot : Spot) (role : Role) : Type 0 where
    injection : Injection world grants now
    placed : Placed
    on_tile : placed.tile ≡ tile
    spot_is : spot_of placed.entry ≡ spot
    role_is : role_of placed.entry ≡ role
    kind : (placed ≡ inject_placed world.platform injection.way injection.slot) ⊎ (IsPassing world.platform injection.way injection.slot placed ⊎ (placed ≡ deliver_placed world.platform injection.way injection.slot))

  placed_known : AreTabled world grants now tile rows → (spot : Spot) (what : Entry Role) → spots_of rows spot ≡ Some what → IsFound spot what.what
  placed_known is spot what there =
      let known = is.known spot what there in
      let held = known.held in
      let own = own_entry world tile held.grant held.place known.entry held.there in
      let from = from_bundle world.platform own.bundle own.place own.placed own.there in
      record {
        injection = record {
          holder = record { index = held.index; grant = held.grant; granted = held.granted; stands = held.stands; bundle = own.bundle; bundled = own.bundled };
          number = from.number;
          way = from.way;
          way_there = from.way_there;
          place = from.place;
          slot = from.slot;
          slot_there = from.slot_there;
        };
        placed = own.placed;
        on_tile = own.on_tile;
        spot_is = ap spot_of own.entry_is ∙ known.spot_is;
        role_is = ap role_of own.entry_is ∙ known.role_is;
        kind = from.kind;
      }

  injection_bundle : IsSoundCatalog world → (i : Injection world grants now) → IsWellFormed world.platform i.holder.bundle
  injection_bundle sound i = sound_bundle world i.holder.grant.bundle i.holder.bundle sound i.holder.bundled

  injection_way : IsSoundCatalog world → (i : Injection world grants now) → IsWellFormedWay world.platform i.holder.bundle i.way
  injection_way sound i = way_at world.platform i.holder.bundle i.number i.way (injection_bundle sound i) i.way_there

  -- what is looked up, by the places of rows of the platform's tables
  injecting_here : AreTabled world grants now tile rows → (slot : ℕ) → injecting rows slot ≡ option_and_then (λ (entry : Entry Role). role_port entry.what) (spots_of rows (InjectRow (slot % world.platform.table_slots)))
  injecting_here is slot = injecting_is rows slot ∙ ap (λ n. option_and_then (λ (entry : Entry Role). role_port entry.what) (spots_of rows (InjectRow (slot % n)))) is.laid_out.slots

  output_here : AreTabled world grants now tile rows → (slot : ℕ) (inputs : List WordAndCredits) (injected : WordAndCredits) (out : ℕ) → get_or (routed rows slot inputs injected).links out idle ≡ option_map_or (λ (entry : Entry Role). role_flit inputs injected entry.what) (spots_of rows (OutRow out ((slot + 1) % world.platform.table_slots))) idle
  output_here is slot inputs injected out = output_is rows slot inputs injected out ∙ ap (λ n. option_map_or (λ (entry : Entry Role). role_flit inputs injected entry.what) (spots_of rows (OutRow out ((slot + 1) % n))) idle) is.laid_out.slots

  delivery_here : AreTabled world grants now tile rows → (slot : ℕ) (inputs : List WordAndCredits) (injected : WordAndCredits) → (routed rows slot inputs injected).deliver ≡ option_and_then (λ (entry : Entry Role). role_delivery inputs entry.what) (spots_of rows (DropRow (slot % world.platform.table_slots)))
  delivery_here is slot inputs injected = delivery_is rows slot inputs injected ∙ ap (λ n. option_and_then (λ (entry : Entry Role). role_delivery inputs entry.what) (spots_of rows (DropRow (slot % n)))) is.laid_out.slots

  -- a channel of a standing grant that injects on the tile has its port named in its row
  departs : AreTabled world grants now tile rows → (slot : ℕ) (d : Departure world grants now (slot % world.platform.table_slots) tile) → injecting rows slot ≡ Some d.injection.way.from.port
  departs is slot d =
      let i = d.injection in
      let told = placed_told is i 0 (inject_placed world.platform i.way i.slot) refl d.tile_is in
      injecting_here is slot ∙ ap (λ row. option_and_then (λ (entry : Entry Role). role_port entry.what) (spots_of rows (InjectRow row))) (sym d.row_is)
      ∙ ap (option_and_then (λ (entry : Entry Role). role_port entry.what)) told

  named_port : (role : Role) (row port : ℕ) → role_port role ≡ Some port → (f : IsFound (InjectRow row) role) → (d : Departure world grants now row tile) × (d.injection.way.from.port ≡ port)
  named_port role row port named f = elim f.kind [
    | inl is ↦
        let spot : InjectRow f.injection.slot ≡ InjectRow row = ap (λ (p : Placed). spot_of p.entry) (sym is) ∙ f.spot_is in
        let role_is : Sends f.injection.way.from.port ≡ role = ap (λ (p : Placed). role_of p.entry) (sym is) ∙ f.role_is in (
          record { injection = f.injection; tile_is = ap (λ (p : Placed). p.tile) (sym is) ∙ f.on_tile; row_is = cc },
          same_Some f.injection.way.from.port port (ap role_port role_is ∙ named),
        )
    | inr (inl is) ↦
        let spot : spot_of (link_placed world.platform f.injection.way f.injection.slot is.hop is.number).entry ≡ InjectRow row = ap (λ (p : Placed). spot_of p.entry) (sym is.placed_is) ∙ f.spot_is in
        absurd (cc)
    | inr (inr is) ↦
        let spot : spot_of (deliver_placed world.platform f.injection.way f.injection.slot).entry ≡ InjectRow row = ap (λ (p : Placed). spot_of p.entry) (sym is) ∙ f.spot_is in
        absurd (cc)
  ]

  -- and a port that is named there is one of such a channel
  pub departed : AreTabled world grants now tile rows → (slot port : ℕ) → injecting rows slot ≡ Some port → (d : Departure world grants now (slot % world.platform.table_slots) tile) × (d.injection.way.from.port ≡ port)
  departed is slot port named =
      let row = slot % world.platform.table_slots in
      option_and_then_some (λ (entry : Entry Role). role_port entry.what) (spots_of rows (InjectRow row)) port (sym (injecting_here is slot) ∙ named) (λ what there port_is.
      named_port what.what row port port_is (placed_known is (InjectRow row) what there))

  -- a channel that passes a link which leaves the tile has its flit taken from where it comes from
  passes : AreTabled world grants now tile rows → (slot number : ℕ) (link : Link) (inputs : List WordAndCredits) (injected : WordAndCredits) → slice_get world.platform.links number ≡ Some link → link.from ≡ tile → (p : Passage world grants now ((slot + 1) % world.platform.table_slots) number) → get_or (routed rows slot inputs injected).links link.out idle ≡ from_source inputs injected (source_of world.platform p.injection.way.path p.hop)
  passes is slot number link inputs injected link_there from p =
      let i = p.injection in
      let placed = link_placed world.platform i.way i.slot p.hop number in
      let linked = link_is world.platform number link link_there in
      let told = placed_told is i (suc p.hop) placed (slot_link world.platform i.way i.slot p.hop number p.link_there) (ap (λ (l : Link). l.from) linked ∙ from) in
      output_here is slot inputs injected link.out
      ∙ ap₂ (λ out row. option_map_or (λ (entry : Entry Role). role_flit inputs injected entry.what) (spots_of rows (OutRow out row)) idle) (ap (λ (l : Link). l.out) (sym linked)) (sym p.row_is)
      ∙ ap (λ o. option_map_or (λ (entry : Entry Role). role_flit inputs injected entry.what) o idle) told

  passing_there : IsSoundCatalog world → (row number : ℕ) (link : Link) (role : Role) → slice_get world.platform.links number ≡ Some link → link.from ≡ tile → (f : IsFound (OutRow link.out row) role) → Passage world grants now row number
  passing_there sound row number link role link_there from f = elim f.kind [
    | inl is ↦
        let spot : InjectRow f.injection.slot ≡ OutRow link.out row = ap (λ (p : Placed). spot_of p.entry) (sym is) ∙ f.spot_is in
        absurd (cc)
    | inr (inl is) ↦
        let way = f.injection.way in
        let linked = (injection_way sound f.injection).path.linked is.hop is.number is.passed in
        let same = link_is world.platform is.number linked.0 linked.1 in
        let spot : OutRow (link_of world.platform is.number).out ((f.injection.slot + 1 + is.hop) % world.platform.table_slots) ≡ OutRow link.out row = ap (λ (p : Placed). spot_of p.entry) (sym is.placed_is) ∙ f.spot_is in
        let out : (link_of world.platform is.number).out ≡ link.out = cc in
        let leaves : (link_of world.platform is.number).from ≡ tile = ap (λ (p : Placed). p.tile) (sym is.placed_is) ∙ f.on_tile in
        let one : is.number ≡ number = one_link world.platform is.number number linked.0 link linked.1 link_there (ap (λ (l : Link). l.from) (sym same) ∙ leaves ∙ sym from) (ap (λ (l : Link). l.out) (sym same) ∙ out) in
        record {
          injection = f.injection;
          hop = is.hop;
          link_there = is.passed ∙ ap (λ n. Some n) one;
          row_is = cc;
        }
    | inr (inr is) ↦
        let spot : spot_of (deliver_placed world.platform f.injection.way f.injection.slot).entry ≡ OutRow link.out row = ap (λ (p : Placed). spot_of p.entry) (sym is) ∙ f.spot_is in
        absurd (cc)
  ]

  -- and where none passes it, the output is idle
  passed : IsSoundCatalog world → AreTabled world grants now tile rows → (slot number : ℕ) (link : Link) (inputs : List WordAndCredits) (injected : WordAndCredits) → slice_get world.platform.links number ≡ Some link → link.from ≡ tile → Passage world grants now ((slot + 1) % world.platform.table_slots) number ⊎ (get_or (routed rows slot inputs injected).links link.out idle ≡ idle)
  passed sound is slot number link inputs injected link_there from = by (spots_of rows (OutRow link.out ((slot + 1) % world.platform.table_slots))) refl
    where
      by : (o : Option (Entry Role)) → spots_of rows (OutRow link.out ((slot + 1) % world.platform.table_slots)) ≡ o → Passage world grants now ((slot + 1) % world.platform.table_slots) number ⊎ (get_or (routed rows slot inputs injected).links link.out idle ≡ idle)
      by None there = inr (output_here is slot inputs injected link.out ∙ ap (λ o. option_map_or (λ (entry : Entry Role). role_flit inputs injected entry.what) o idle) there)
      by (Some what) there = inl (passing_there sound ((slot + 1) % world.platform.table_slots) number link what.what link_there from (placed_known is (OutRow link.out ((slot + 1) % world.platform.table_slots)) what there))

  -- a channel that ends at the tile has its flit delivered
  arrives : AreTabled world grants now tile rows → (slot : ℕ) (inputs : List WordAndCredits) (injected : WordAndCredits) (a : Arrival world grants now (slot % world.platform.table_slots) tile) → (routed rows slot inputs injected).deliver ≡ Some (arriving world grants now (slot % world.platform.table_slots) tile inputs a)
  arrives is slot inputs injected a =
      let i = a.injection in
      let told = placed_told is i (suc (length i.way.path)) (deliver_placed world.platform i.way i.slot) (slot_deliver world.platform i.way i.slot) a.tile_is in
      delivery_here is slot inputs injected ∙ ap (λ row. option_and_then (λ (entry : Entry Role). role_delivery inputs entry.what) (spots_of rows (DropRow row))) (sym a.row_is)
      ∙ ap (option_and_then (λ (entry : Entry Role). role_delivery inputs entry.what)) told

  delivered_there : (inputs : List WordAndCredits) (role : Role) (row : ℕ) (delivery : Delivery) → role_delivery inputs role ≡ Some delivery → (f : IsFound (DropRow row) role) → (a : Arrival world grants now row tile) × (arriving world grants now row tile inputs a ≡ delivery)
  delivered_there inputs role row delivery named f = elim f.kind [
    | inl is ↦
        let spot : InjectRow f.injection.slot ≡ DropRow row = ap (λ (p : Placed). spot_of p.entry) (sym is) ∙ f.spot_is in
        absurd (cc)
    | inr (inl is) ↦
        let spot : spot_of (link_placed world.platform f.injection.way f.injection.slot is.hop is.number).entry ≡ DropRow row = ap (λ (p : Placed). spot_of p.entry) (sym is.placed_is) ∙ f.spot_is in
        absurd (cc)
    | inr (inr is) ↦
        let way = f.injection.way in
        let spot : DropRow ((f.injection.slot + length way.path) % world.platform.table_slots) ≡ DropRow row = ap (λ (p : Placed). spot_of p.entry) (sym is) ∙ f.spot_is in
        let role_is : Receives (last_input world.platform way.path) way.to.port ≡ role = ap (λ (p : Placed). role_of p.entry) (sym is) ∙ f.role_is in (
          record { injection = f.injection; tile_is = ap (λ (p : Placed). p.tile) (sym is) ∙ f.on_tile; row_is = cc },
          same_Some _ delivery (ap (role_delivery inputs) role_is ∙ named),
        )
  ]

  -- and what is delivered is the flit of such a channel
  pub arrived : AreTabled world grants now tile rows → (slot : ℕ) (inputs : List WordAndCredits) (injected : WordAndCredits) (delivery : Delivery) → (routed rows slot inputs injected).deliver ≡ Some delivery → (a : Arrival world grants now (slot % world.platform.table_slots) tile) × (arriving world grants now (slot % world.platform.table_slots) tile inputs a ≡ delivery)
  arrived is slot inputs injected delivery named =
      let row = slot % world.platform.table_slots in
      option_and_then_some (λ (entry : Entry Role). role_delivery inputs entry.what) (spots_of rows (DropRow row)) delivery (sym (delivery_here is slot inputs injected) ∙ named) (λ what there delivery_is.
      delivered_there inputs what.what row delivery delivery_is (placed_known is (DropRow row) what there))

  -- the port that injects, and the port to which is delivered, are ports of the platform
  pub injects_within : IsSoundCatalog world → AreTabled world grants now tile rows → (slot port : ℕ) → injecting rows slot ≡ Some port → port < world.platform.ports
  injects_within sound is slot port named =
      let d = departed is slot port named in
      let i = d.0.injection in
      subst (λ p. p < world.platform.ports) d.1 (end_port world.platform i.holder.bundle i.way.from (injection_bundle sound i) (injection_way sound i).source)

  pub delivers_within : IsSoundCatalog world → AreTabled world grants now tile rows → (slot : ℕ) (inputs : List WordAndCredits) (injected : WordAndCredits) (delivery : Delivery) → (routed rows slot inputs injected).deliver ≡ Some delivery → delivery.port < world.platform.ports
  delivers_within sound is slot inputs injected delivery named =
      let a = arrived is slot inputs injected delivery named in
      let i = a.0.injection in
      subst (λ (d : Delivery). d.port < world.platform.ports) a.1 (end_port world.platform i.holder.bundle i.way.to (injection_bundle sound i) (injection_way sound i).target)

-- what is looked up in sound tables is what the channels of the standing grants claim
pub injects_are_read : InjectsAreRead
injects_are_read world grants now tile rows slot are = record {
  told = λ d. departs world grants now tile rows are.tabled slot d;
  known = λ port named. departed world grants now tile rows are.tabled slot port named;
}

pub outputs_are_read : OutputsAreRead
outputs_are_read world grants now tile rows slot inputs injected are = record {
  told = λ number link link_there from p. passes world grants now tile rows are.tabled slot number link inputs injected link_there from p;
  known = λ number link link_there from. passed world grants now tile rows are.sound are.tabled slot number link inputs injected link_there from;
}

pub deliveries_are_read : DeliveriesAreRead
deliveries_are_read world grants now tile rows slot inputs injected are = record {
  told = λ a. arrives world grants now tile rows are.tabled slot inputs injected a;
  known = λ delivery named. arrived world grants now tile rows are.tabled slot inputs injected delivery named;
}
