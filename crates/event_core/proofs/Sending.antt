-- What a tile that follows its grants injects, and puts on its links.
use Rattle.std.proofs.Common.{◌≡◌, ℕ, ◌+◌, ◌%◌, ◌==◌, List, find, get_or, slice_get, Some, option_map, option_and_then, refl, sym, subst, ap, ap₂, ◌∙◌, arith}
use Rattle.std.specs.Option.{option_map_or}
use Rattle.std.proofs.lemmas.Bool.{eq-eqb, eqb-true}
use Rattle.std.proofs.lemmas.Option.{slice_get-map}
use Rattle.soc_base.specs.Port.{idle, inject}
use Rattle.ni_port.specs.SizedPort.{SizedPort}
use Rattle.bundle_model.specs.declared.bundle.Part.{Part}
use Rattle.bundle_model.specs.declared.bundle.Bundle.{Bundle}
use Rattle.bundle_model.specs.declared.world.World.{World}
use Rattle.bundle_model.specs.declared.world.LoadName.{LoadName}
use Rattle.bundle_model.specs.declared.world.Grant.{Grant}
use Rattle.bundle_model.specs.World.{part_on}
use Rattle.bundle_model.proofs.Laws.{way_at, found_at, one_part}
use Rattle.part_model.specs.Part.{PartState}
use Rattle.tile_mmio.specs.Ports.{no_port, own_ports}
use Rattle.tdm_network.specs.Rows.{injecting}
use Rattle.grant_tables.specs.Claims.{Holder, Injection, Departure}
use Rattle.grant_tables.proofs.Laws.{injects_are_read}
use Rattle.alone_model.specs.Network.{port_of}
use Rattle.alone_model.proofs.Laws.{IsPortAt, port_of_at, alone_parts}
use Rattle.tile_core.specs.Tile.{TileState, load_part}
use Rattle.tile_core.specs.Slot.{grant_of, with_grants, injected_flit}
use Rattle.tile_core.specs.Views.{opened_view, place_grant}
use Rattle.tile_core.proofs.Laws.{grant_place, own_grant, slot_ports}
use Rattle.event_core.proofs.Settled.{IsSettled, stands_parts, begun_by, lasts_back, well}
use Rattle.event_core.proofs.Flits.{alone_of}
use Rattle.event_core.proofs.Parts.{IsAlonePart, at_its_place, alone_state}
use Rattle.event_core.proofs.Views.{view_by, view_at, view_alone, opened_alone}
use Rattle.event_core.proofs.Follows.{FollowsOn, site_in, ready_slot, ready_sound}

-- the part that an end is held by is the bundle's part on the tile
end_part_on : (world : World) (grants : List Grant) (now number : ℕ) (x : Holder world grants now) (loads : List LoadName) (held : Part) (k : ℕ) → IsSettled world loads grants → slice_get x.bundle.parts k ≡ Some held → held.tile ≡ number → part_on world number x.grant.bundle ≡ Some held
end_part_on world grants now number x loads held k so there tile =
    ap (option_and_then (λ (b : Bundle). find (λ (p : Part). p.tile == number) b.parts)) x.bundled
    ∙ found_at (λ (p : Part). p.tile == number) x.bundle.parts k held there (eq-eqb held.tile number tile)
    (λ j other at passes. one_part world.platform x.bundle j k other held (well world grants now x so.sound.catalog) at there (eqb-true other.tile number passes ∙ sym tile))

-- once the grants of its slot have ended and begun, a tile has the ports of a part as it is alone
part_ports : (world : World) (loads : List LoadName) (grants : List Grant) (tile : TileState) (x : Holder world grants (tile.at + 1)) (part : Part) → IsSettled world loads grants → FollowsOn world loads grants tile.at tile.number tile
    → (alone : IsAlonePart world x.grant tile.at tile.number part) → part_on world tile.number x.grant.bundle ≡ Some part → own_ports (with_grants world grants tile).ports part.ports ≡ alone.one.state.ports
part_ports world loads grants tile x part so follows alone on =
    let site = site_in world loads grants tile.at tile.number tile so follows in
    let place = grant_place world loads grants tile x.index x.grant part site x.granted on in
    let own = own_grant world loads tile.loads grants tile.number x.index x.grant x.grant.label site x.granted refl in
    let part_is : load_part world tile place.0 ≡ Some part = ap (option_and_then (λ (l : LoadName). part_on world tile.number l.bundle)) place.1 ∙ on in
    let grant_is : place_grant grants tile place.0 ≡ Some x.grant = ap (option_and_then (λ (l : LoadName). grant_of grants l.label)) place.1 ∙ own in
    let times = stands_parts (tile.at + 1) x.grant x.stands in
    let seen : view_at world grants tile.at tile place.0 ≡ alone.one.state =
    ap₂ (view_by world tile.at tile.number) grant_is part_is
    ∙ view_alone world x.grant tile.at tile.number part alone.one.state (begun_by world grants tile.at x) (lasts_back tile.at (tile.at + 1) x.grant.end (omega arith) times.1) (alone_state world x.grant tile.at tile.number part so.sound.catalog alone) in
    slot_ports world loads grants (view_at world grants tile.at tile) tile place.0 part x.grant so.sound so.apart so.of_loads follows.made follows.holds part_is grant_is x.stands
    ∙ ap (λ (s : PartState). (opened_view world tile.at x.grant part s).ports) seen
    ∙ ap (λ (s : PartState). s.ports) (opened_alone world x.grant tile.at tile.number part alone)

own_port : (ports : List SizedPort) (numbers : List ℕ) (j n : ℕ) → slice_get numbers j ≡ Some n → slice_get (own_ports ports numbers) j ≡ Some (get_or ports n no_port)
unfolding own_ports
own_port ports numbers j n there = slice_get-map (λ m. get_or ports m no_port) numbers j ∙ ap (option_map (λ m. get_or ports m no_port)) there

-- the flit that a channel injects is the tile's, by the tile's own slot
own_injected : (world : World) (loads : List LoadName) (grants : List Grant) (tile : TileState) (x : Injection world grants (tile.at + 1)) → IsSettled world loads grants → FollowsOn world loads grants tile.at tile.number tile
    → x.way.from.tile ≡ tile.number → x.slot ≡ tile.at % world.platform.table_slots
    → injected_flit (with_grants world grants tile) ≡ (inject (port_of (alone_of world grants (tile.at + 1) x.holder tile.at).parts x.way.from)).0
own_injected world loads grants tile x so follows from row =
    let ready = with_grants world grants tile in
    let sound = ready_sound world loads grants tile.at tile.number tile so follows in
    let reads = injects_are_read world grants (tile.at + 1) tile.number ready.tables tile.at sound in
    let d : Departure world grants (tile.at + 1) (tile.at % world.platform.table_slots) tile.number = record { injection = x; tile_is = from; row_is = row } in
    let formed = well world grants (tile.at + 1) x.holder so.sound.catalog in
    let held = (way_at world.platform x.holder.bundle x.number x.way formed x.way_there).source in
    let on = end_part_on world grants (tile.at + 1) tile.number x.holder loads held.part held.place so held.there (held.tile ∙ from) in
    let at = at_its_place world x.holder.bundle x.holder.grant.start tile.at held.place held.part held.there in
    let alone : IsAlonePart world x.holder.grant tile.at tile.number held.part = record {
      bundle = x.holder.bundle;
      bundled = x.holder.bundled;
      place = held.place;
      there = held.there;
      tile = held.tile ∙ from;
      one = at.0;
      one_there = at.1;
      its = at.2;
    } in
    let ports = part_ports world loads grants tile x.holder held.part so follows alone on in
    let port : SizedPort = get_or ready.ports x.way.from.port no_port in
    let port_at : IsPortAt (alone_of world grants (tile.at + 1) x.holder tile.at).parts held.place held.index held.part port = record {
      one = at.0;
      there = at.1;
      its = at.2;
      port = ap (λ (ps : List SizedPort). slice_get ps held.index) (sym ports) ∙ own_port ready.ports held.part.ports held.index x.way.from.port held.port;
    } in
    ap (λ u. option_map_or (λ n. (inject (get_or ready.ports n no_port).port).0) (injecting ready.tables u) idle) (ready_slot world loads grants tile.at tile.number tile so follows)
    ∙ ap (λ o. option_map_or (λ n. (inject (get_or ready.ports n no_port).port).0) o idle) (reads.told d)
    ∙ sym (ap (λ p. (inject p).0) (port_of_at world.platform x.holder.bundle (alone_of world grants (tile.at + 1) x.holder tile.at).parts x.way.from held port formed (alone_parts world.platform x.holder.bundle x.holder.grant.start tile.at) port_at))

-- the same by a slot and a number
pub injected_now : (world : World) (loads : List LoadName) (grants : List Grant) (slot : ℕ) (tile : TileState) (x : Injection world grants (slot + 1)) → IsSettled world loads grants → FollowsOn world loads grants slot x.way.from.tile tile → x.slot ≡ slot % world.platform.table_slots
    → injected_flit (with_grants world grants tile) ≡ (inject (port_of (alone_of world grants (slot + 1) x.holder slot).parts x.way.from)).0
injected_now world loads grants slot tile x so follows row =
    let P : ℕ → Type 0 = λ u. (y : Injection world grants (u + 1)) → FollowsOn world loads grants u y.way.from.tile tile → y.slot ≡ u % world.platform.table_slots
    → injected_flit (with_grants world grants tile) ≡ (inject (port_of (alone_of world grants (u + 1) y.holder u).parts y.way.from)).0 in
    let own : P tile.at = λ y at is. own_injected world loads grants tile y so (subst (λ n. FollowsOn world loads grants tile.at n tile) (sym at.number_is) at) (sym at.number_is) is in
    subst P follows.at own x follows row
