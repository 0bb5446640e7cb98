-- Ports inject and receive on a tile as they do alone.
use Rattle.std.proofs.Common.{◌≡◌, ℕ, ◌+◌, ◌-◌, ◌%◌, ◌≤◌, Bool, true, false, cond, ◌==◌, ◌&&◌, List, ◌++◌, length, get_or, slice_get, Option, Some, None, refl, sym, ap, ap₂, ◌∙◌, inl, inr, arith}
use Rattle.std.specs.Option.{option_map_or}
use Rattle.std.proofs.lemmas.Bool.{cases_Bool, and_parts, and_from, eqb-true, eq-eqb, false≢true, false_from_ne_true}
use Rattle.std.proofs.lemmas.Option.{none-some, same_Some, slice_get-get_or}
use Rattle.soc_base.specs.Time.{is_among}
use Rattle.soc_base.specs.Port.{WordAndCredits, idle}
use Rattle.ni_port.specs.SizedPort.{SizedPort, after_inject, after_deliver}
use Rattle.platform_model.specs.declared.link.Link.{Link}
use Rattle.bundle_model.specs.declared.world.World.{World}
use Rattle.bundle_model.specs.declared.world.Grant.{Grant}
use Rattle.bundle_model.specs.Ways.{Way, ways_of}
use Rattle.bundle_model.specs.WellFormed.{IsHeldEnd}
use Rattle.bundle_model.specs.Grants.{IsApart}
use Rattle.bundle_model.specs.World.{IsSoundCatalog}
use Rattle.bundle_model.proofs.Laws.{way_at, none_found}
use Rattle.tdm_network.specs.declared.rows.Row.{Row}
use Rattle.tdm_network.specs.declared.routing.Delivery.{Delivery}
use Rattle.tdm_network.specs.Rows.{injecting}
use Rattle.tdm_network.specs.Routing.{routed}
use Rattle.grant_tables.specs.Claims.{Holder, Injection, Departure, Arrival}
use Rattle.grant_tables.specs.Entries.{link_of, last_input}
use Rattle.grant_tables.specs.Law.{InjectsAre, DeliveriesAre, arriving}
use Rattle.alone_model.specs.Network.{Flying, is_end, injects, injected, new_flits, lands, delivered, flit_on}
use Rattle.alone_model.proofs.Laws.{AreInjected}
use Rattle.lockstep.specs.Lockstep.{inputs_of}
use Rattle.tile_core.specs.Views.{Exchange, sent, reached}
use Rattle.event_core.specs.Links.{LinkFollows}
use Rattle.event_core.proofs.Rows.{row_later}
use Rattle.grant_tables.proofs.Laws.{any_at, link_is}
use Rattle.event_core.proofs.Wiring.{input_carries}
use Rattle.event_core.proofs.Settled.{well, one_port}
use Rattle.event_core.proofs.Flits.{alone_of, among_slots, link_now}
use Rattle.event_core.proofs.Landing.{any_place, ends_same, is_end_from, delivered_last}

-- the links carry in a slot what flies alone
abbrev pub LinksCarry : World → List Grant → ℕ → (Link → WordAndCredits) → Type 0
LinksCarry world grants slot carried = (number : ℕ) (link : Link) → slice_get world.platform.links number ≡ Some link → LinkFollows world grants slot number (carried link)

-- the flits at the inputs of a tile
abbrev pub inputs_on : World → (Link → WordAndCredits) → ℕ → List WordAndCredits
inputs_on world carried tile = inputs_of idle world.platform.links carried tile

-- what flies alone once the slot's flits are injected
abbrev pub flying_at : (world : World) (grants : List Grant) (slot : ℕ) → Holder world grants (slot + 1) → List Flying
flying_at world grants slot x = new_flits world.platform (alone_of world grants (slot + 1) x slot).parts slot 0 (ways_of x.bundle) ++ (alone_of world grants (slot + 1) x slot).flying

module _ (world : World) (grants : List Grant) (slot : ℕ) (apart : IsApart world grants) (sound : IsSoundCatalog world) where
  abbrev row : ℕ
  row = slot % world.platform.table_slots

  injects_named : (x : Holder world grants (slot + 1)) (tile port : ℕ) (rows : List Row) → InjectsAre world grants (slot + 1) tile rows slot → injects world.platform x.bundle slot tile port ≡ true → injecting rows slot ≡ Some port
  injects_named x tile port rows reads is =
      let way = any_place (λ (way : Way). is_end tile port way.from && is_among row way.slots) (ways_of x.bundle) is in
      let both = and_parts (is_end tile port way.1.from) (is_among row way.1.slots) way.3 in
      let end = ends_same tile port way.1.from both.0 in
      let at = any_place (λ m. m == row) way.1.slots both.1 in
      let d : Departure world grants (slot + 1) row tile = record {
        injection = record { holder = x; number = way.0; way = way.1; way_there = way.2; place = at.0; slot = at.1; slot_there = at.2 };
        tile_is = end.0;
        row_is = eqb-true at.1 row at.3;
      } in
      reads.told d ∙ ap (λ n. Some n) end.1

  named_injects : (x : Holder world grants (slot + 1)) (tile port : ℕ) (rows : List Row) → InjectsAre world grants (slot + 1) tile rows slot → IsHeldEnd x.bundle (record { tile = tile; port = port }) → injecting rows slot ≡ Some port → injects world.platform x.bundle slot tile port ≡ true
  named_injects x tile port rows reads held is =
      let known = reads.known port is in
      let y = known.0.injection in
      let source = (way_at world.platform y.holder.bundle y.number y.way (well world grants (slot + 1) y.holder sound) y.way_there).source in
      let bundle : y.holder.bundle ≡ x.bundle = one_port world grants slot y.holder x y.way.from (record { tile = tile; port = port }) apart source held known.0.tile_is known.1 in
      ap (λ b. injects world.platform b slot tile port) (sym bundle)
      ∙ any_at (λ (way : Way). is_end tile port way.from && is_among row way.slots) (ways_of y.holder.bundle) y.number y.way y.way_there
      (and_from (is_end tile port y.way.from) (is_among row y.way.slots) (is_end_from tile port y.way.from known.0.tile_is known.1) (among_slots world grants (slot + 1) y row known.0.row_is))

  named : (o : Option ℕ) (port : ℕ) → option_map_or (λ n. n == port) o false ≡ true → o ≡ Some port
  named None port is = absurd (false≢true is)
  named (Some n) port is = ap (λ m. Some m) (eqb-true n port is)

  -- a port injects on the tile where it does alone
  pub port_injects : (x : Holder world grants (slot + 1)) (tile port : ℕ) (rows : List Row) (exchange : Exchange) (p : SizedPort) → InjectsAre world grants (slot + 1) tile rows slot → exchange.sends ≡ injecting rows slot → IsHeldEnd x.bundle (record { tile = tile; port = port })
      → sent exchange port p ≡ injected world.platform x.bundle slot tile port p
  port_injects x tile port rows exchange p reads sends held =
      let names : Option ℕ → Bool = λ o. option_map_or (λ n. n == port) o false in
      ap (λ o. cond (names o) (after_inject p) p) sends
      ∙ ap (λ b. cond b (after_inject p) p) (elim (cases_Bool (names (injecting rows slot))) [
        | inl is ↦ is ∙ sym (named_injects x tile port rows reads held (named (injecting rows slot) port is))
        | inr isnt ↦
            isnt
            ∙ sym (false_from_ne_true (injects world.platform x.bundle slot tile port) (λ is.
            false≢true (sym isnt ∙ ap names (injects_named x tile port rows reads is) ∙ eq-eqb port port refl)))
      ])

  -- one that lands is told
  landed : (x : Holder world grants (slot + 1)) (tile port : ℕ) (flying : List Flying) (k : ℕ) (f : Flying) → AreInjected world.platform x.bundle (slot + 1) flying → slice_get flying k ≡ Some f → lands x.bundle slot tile port f ≡ true
      → (a : Arrival world grants (slot + 1) row tile) × (a.injection.way.to.port ≡ port)
  landed x tile port flying k f valid there is =
      let table = world.platform.table_slots in
      let way = valid.each k f there in
      let both = and_parts (is_end tile port way.0.to) (f.since + length way.0.path == slot) (sym (ap (λ o. option_map_or (λ (w : Way). is_end tile port w.to && f.since + length w.path == slot) o false) way.1) ∙ is) in
      let end = ends_same tile port way.0.to both.0 in
      let when : f.since + length way.0.path ≡ slot = eqb-true (f.since + length way.0.path) slot both.1 in
      let at = any_place (λ m. m == f.since % table) way.0.slots way.2 in
      let s : at.1 ≡ f.since % table = eqb-true at.1 (f.since % table) at.3 in
      let a : Arrival world grants (slot + 1) row tile = record {
        injection = record { holder = x; number = f.number; way = way.0; way_there = way.1; place = at.0; slot = at.1; slot_there = at.2 };
        tile_is = end.0;
        row_is = ap (λ n. (n + length way.0.path) % table) s ∙ row_later table f.since (length way.0.path) ∙ ap (λ n. n % table) when;
      } in
      (a, end.1)

  none_lands : (x : Holder world grants (slot + 1)) (tile port : ℕ) (flying : List Flying) (p : SizedPort) → AreInjected world.platform x.bundle (slot + 1) flying → ((a : Arrival world grants (slot + 1) row tile) → a.injection.way.to.port ≡ port → ⊥)
      → delivered x.bundle flying slot tile port p ≡ p
  none_lands x tile port flying p valid none =
      ap (λ o. option_map_or (λ (f : Flying). after_deliver f.flit p) o p)
      (none_found (lands x.bundle slot tile port) flying (λ k f there. false_from_ne_true (lands x.bundle slot tile port f) (λ is. let l = landed x tile port flying k f valid there is in none l.0 l.1)))

  -- at the input at which a path ends a tile has what flies on its last link alone
  pub last_link : (carried : Link → WordAndCredits) → LinksCarry world grants slot carried → (x : Injection world grants (slot + 1)) → (x.slot + length x.way.path) % world.platform.table_slots ≡ row
      → get_or (inputs_on world carried x.way.to.tile) (last_input world.platform x.way.path) idle ≡ flit_on (alone_of world grants (slot + 1) x.holder slot).flying slot x.number (length x.way.path - 1)
  last_link carried follows x is =
      let path = (way_at world.platform x.holder.bundle x.number x.way (well world grants (slot + 1) x.holder sound) x.way_there).path in
      let some = path.some_link in
      let hop : ℕ = length x.way.path - 1 in
      let number : ℕ = get_or x.way.path hop 0 in
      let there : slice_get x.way.path hop ≡ Some number = slice_get-get_or x.way.path hop 0 (omega arith) in
      let link = path.linked hop number there in
      let e : x.slot + 1 + (length x.way.path - 1) ≡ x.slot + length x.way.path = omega arith in
      let its : link_of world.platform number ≡ link.0 = link_is world.platform number link.0 link.1 in
      ap (λ t. get_or (inputs_on world carried t) (link_of world.platform number).input idle) (sym (path.ends number link.0 there link.1))
      ∙ ap (λ (l : Link). get_or (inputs_on world carried link.0.to) l.input idle) its
      ∙ input_carries idle world.platform carried number link.0 link.1
      ∙ link_now world grants slot apart x hop number (carried link.0) there (ap (λ n. n % world.platform.table_slots) e ∙ is) (follows number link.0 link.1)

  something : (x : Holder world grants (slot + 1)) (tile port : ℕ) (carried : Link → WordAndCredits) (p : SizedPort) → LinksCarry world grants slot carried → IsHeldEnd x.bundle (record { tile = tile; port = port }) → p.port.credit ≤ p.queue
      → (a : Arrival world grants (slot + 1) row tile) → a.injection.way.to.port ≡ port
      → delivered x.bundle (flying_at world grants slot x) slot tile port p ≡ after_deliver (arriving world grants (slot + 1) row tile (inputs_on world carried tile) a).flit p
  something x tile port carried p follows held low a at =
      let y = a.injection in
      let way = y.way in
      let target = (way_at world.platform y.holder.bundle y.number way (well world grants (slot + 1) y.holder sound) y.way_there).target in
      let bundle : y.holder.bundle ≡ x.bundle = one_port world grants slot y.holder x way.to (record { tile = tile; port = port }) apart target held a.tile_is at in
      let way_there : slice_get (ways_of x.bundle) y.number ≡ Some way = ap (λ b. slice_get (ways_of b) y.number) (sym bundle) ∙ y.way_there in
      let mine : Injection world grants (slot + 1) = record { holder = x; number = y.number; way = way; way_there = way_there; place = y.place; slot = y.slot; slot_there = y.slot_there } in
      let app = alone_of world grants (slot + 1) x slot in
      ap₂ (λ t q. delivered x.bundle (flying_at world grants slot x) slot t q p) (sym a.tile_is) (sym at)
      ∙ delivered_last world.platform x.bundle slot y.number way app.parts app.flying (well world grants (slot + 1) x sound) way_there p low
      ∙ ap (λ flit. after_deliver flit p) (sym (last_link carried follows mine a.row_is))
      ∙ ap (λ t. after_deliver (get_or (inputs_on world carried t) (last_input world.platform way.path) idle) p) a.tile_is

  -- a port receives on the tile what it does alone
  pub port_receives : (x : Holder world grants (slot + 1)) (tile port : ℕ) (rows : List Row) (carried : Link → WordAndCredits) (exchange : Exchange) (p : SizedPort) → DeliveriesAre world grants (slot + 1) tile rows slot (inputs_on world carried tile) idle → exchange.receives ≡ (routed rows slot (inputs_on world carried tile) idle).deliver → LinksCarry world grants slot carried
      → IsHeldEnd x.bundle (record { tile = tile; port = port }) → p.port.credit ≤ p.queue → AreInjected world.platform x.bundle (slot + 1) (flying_at world grants slot x)
      → reached exchange port p ≡ delivered x.bundle (flying_at world grants slot x) slot tile port p
  port_receives x tile port rows carried exchange p reads receives follows held low valid =
      ap (λ o. changed o) receives ∙ by (routed rows slot (inputs_on world carried tile) idle).deliver refl
    where
      changed : Option Delivery → SizedPort
      changed o = option_map_or (λ (d : Delivery). cond (d.port == port) (after_deliver d.flit p) p) o p

      by : (o : Option Delivery) → (routed rows slot (inputs_on world carried tile) idle).deliver ≡ o → changed o ≡ delivered x.bundle (flying_at world grants slot x) slot tile port p
      by None is = sym (none_lands x tile port (flying_at world grants slot x) p valid (λ a at. none-some _ (sym is ∙ reads.told a)))
      by (Some d) is =
          let known = reads.known d is in
          elim (cases_Bool (d.port == port)) [
            | inl same ↦
                let at : known.0.injection.way.to.port ≡ port = ap (λ (e : Delivery). e.port) known.1 ∙ eqb-true d.port port same in
                ap (λ b. cond b (after_deliver d.flit p) p) same
                ∙ ap (λ (e : Delivery). after_deliver e.flit p) (sym known.1)
                ∙ sym (something x tile port carried p follows held low known.0 at)
            | inr other ↦
                ap (λ b. cond b (after_deliver d.flit p) p) other
                ∙ sym (none_lands x tile port (flying_at world grants slot x) p valid (λ a at.
                let one = same_Some _ d (sym (reads.told a) ∙ is) in
                let port_is : d.port ≡ port = sym (ap (λ (e : Delivery). e.port) one) ∙ at in
                false≢true (sym other ∙ eq-eqb d.port port port_is)))
          ]
