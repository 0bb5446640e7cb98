-- A slot of a part on a tile is the slot of its application alone.
use Rattle.std.proofs.Common.{◌≡◌, ℕ, zero, suc, ◌+◌, ◌*◌, ◌≤◌, Bool, true, false, cond, List, [], ◌∷◌, slice_get, Option, Some, None, unwrap_or, refl, sym, ap, ap₂, ◌∙◌, subst, arith}
use Rattle.soc_base.specs.Port.{idle}
use Rattle.ni_port.specs.SizedPort.{SizedPort}
use Rattle.platform_model.specs.declared.link.Link.{Link}
use Rattle.soc_base.specs.Port.{WordAndCredits}
use Rattle.bundle_model.specs.declared.bundle.Part.{Part}
use Rattle.bundle_model.specs.declared.bundle.Bundle.{Bundle}
use Rattle.bundle_model.specs.declared.world.World.{World}
use Rattle.bundle_model.specs.declared.world.Grant.{Grant}
use Rattle.bundle_model.specs.WellFormed.{IsHeldEnd}
use Rattle.bundle_model.specs.Grants.{IsApart, stands_at}
use Rattle.bundle_model.specs.World.{IsSoundCatalog, part_on}
use Rattle.part_model.specs.Part.{PartState}
use Rattle.tdm_network.specs.declared.rows.Row.{Row}
use Rattle.tdm_network.specs.Rows.{injecting}
use Rattle.tdm_network.specs.Routing.{routed}
use Rattle.grant_tables.specs.Claims.{Holder}
use Rattle.grant_tables.specs.Law.{InjectsAre, DeliveriesAre}
use Rattle.alone_model.specs.Network.{AppPart, each_port, with_ports, injected, delivered}
use Rattle.alone_model.specs.Slots.{part_slot}
use Rattle.alone_model.proofs.Laws.{AreModest, modest_kept, cycles_keep, alone_modest, new_injected, alone_injected}
use Rattle.tile_core.specs.Views.{Exchange, sent, reached, with_own, granted_cycles, opened_view, view_slot}
use Rattle.event_core.specs.Stands.{alone_part}
use Rattle.event_core.proofs.Settled.{stands_parts, begun_by, lasts_back}
use Rattle.event_core.proofs.Flits.{alone_of}
use Rattle.event_core.proofs.Ports.{LinksCarry, inputs_on, flying_at, port_injects, port_receives}
use Rattle.event_core.proofs.Parts.{alone_part_on, alone_state, state_of_place, alone_after, cycles_alone, slot_part}
use Rattle.event_core.proofs.Views.{closed_part, view_by, stop_still, view_alone, opened_alone}

-- changes of ports that agree on those that there are
each_port_agree : (f g : ℕ → SizedPort → SizedPort) (numbers : List ℕ) (ports : List SizedPort) → ((j n : ℕ) (p : SizedPort) → slice_get numbers j ≡ Some n → slice_get ports j ≡ Some p → f n p ≡ g n p) → each_port f numbers ports ≡ each_port g numbers ports
each_port_agree f g [] ports same = refl
each_port_agree f g (n ∷ numbers) [] same = refl
each_port_agree f g (n ∷ numbers) (p ∷ ports) same =
    ap₂ (λ (q : SizedPort) (qs : List SizedPort). q ∷ qs) (same zero n p refl refl) (each_port_agree f g numbers ports (λ j m q at there. same (suc j) m q at there))

-- what the network does on a tile in a slot, as it is read in the tables
pub record IsExchange (world : World) (grants : List Grant) (slot tile : ℕ) (carried : Link → WordAndCredits) (exchange : Exchange) : Type 0 where
  pub rows : List Row
  pub injects : InjectsAre world grants (slot + 1) tile rows slot
  pub deliveries : DeliveriesAre world grants (slot + 1) tile rows slot (inputs_on world carried tile) idle
  pub sends : exchange.sends ≡ injecting rows slot
  pub receives : exchange.receives ≡ (routed rows slot (inputs_on world carried tile) idle).deliver

-- a grant whose bundle has the part on a tile
pub record IsGrantOn (world : World) (grants : List Grant) (number : ℕ) (part : Part) (grant : Grant) : Type 0 where
  pub index : ℕ
  pub granted : slice_get grants index ≡ Some grant
  pub on : part_on world number grant.bundle ≡ Some part

-- a part whose ports inject, that has the slot's cycles, and whose ports receive
abbrev pub slot_by : World → ℕ → Exchange → ℕ → Part → PartState → PartState
slot_by world slot exchange start part state =
    let len = world.platform.slot_cycles in
    with_own (reached exchange) part (granted_cycles world (start * len) part (slot * len) len (with_own (sent exchange) part state))

module _ (world : World) (grants : List Grant) (slot : ℕ) (apart : IsApart world grants) (sound : IsSoundCatalog world) (carried : Link → WordAndCredits) (follows : LinksCarry world grants slot carried) where
  held_at : (bundle : Bundle) (k j port : ℕ) (part : Part) → slice_get bundle.parts k ≡ Some part → slice_get part.ports j ≡ Some port → IsHeldEnd bundle (record { tile = part.tile; port = port })
  held_at bundle k j port part there at = record { place = k; part = part; there = there; tile = refl; index = j; port = at }

  part_over : (x : Holder world grants (slot + 1)) (k : ℕ) (one : AppPart) (exchange : Exchange) → IsExchange world grants slot one.part.tile carried exchange
      → slice_get x.bundle.parts k ≡ Some one.part → slice_get (alone_of world grants (slot + 1) x slot).parts k ≡ Some one
      → slot_by world slot exchange x.grant.start one.part one.state ≡ (part_slot world.platform x.bundle (x.grant.start * world.platform.slot_cycles) slot (flying_at world grants slot x) one).state
  part_over x k one exchange network there at =
      let len : ℕ = world.platform.slot_cycles in
      let first : ℕ = x.grant.start * len in
      let flying = flying_at world grants slot x in
      let begun : AppPart = with_ports (injected world.platform x.bundle slot) one in
      let state : PartState = granted_cycles world first one.part (slot * len) len begun.state in
      let cycled : AppPart = record { part = one.part; state = state } in
      let opened : with_own (sent exchange) one.part one.state ≡ begun.state =
      ap (λ (ports : List SizedPort). record one.state { ports = ports })
      (each_port_agree (sent exchange) (injected world.platform x.bundle slot one.part.tile) one.part.ports one.state.ports
      (λ j n p it port. port_injects world grants slot apart sound x one.part.tile n network.rows exchange p network.injects network.sends (held_at x.bundle k j n one.part there it))) in
      let kept = modest_kept world.platform x.bundle first in
      let modest : AreModest world.platform cycled =
      subst (AreModest world.platform) (cycles_alone world first slot begun)
      (cycles_keep world.platform x.bundle first (AreModest world.platform) kept (slot * len) len begun
      (kept.injects slot one (alone_modest world.platform x.bundle x.grant.start slot k one at))) in
      let valid = new_injected world.platform x.bundle slot (alone_of world grants (slot + 1) x slot)
      (alone_injected world.platform x.bundle x.grant.start slot (begun_by world grants slot x)) in
      let closed : with_own (reached exchange) one.part state ≡ (with_ports (delivered x.bundle flying slot) cycled).state =
      ap (λ (ports : List SizedPort). record state { ports = ports })
      (each_port_agree (reached exchange) (delivered x.bundle flying slot one.part.tile) one.part.ports state.ports
      (λ j n p it port.
      let low = modest.each j p port in
      let queue : p.queue ≡ world.platform.queue = low.0 in
      let most : p.port.credit ≤ world.platform.queue = low.1 in
      port_receives world grants slot apart sound x one.part.tile n network.rows carried exchange p network.deliveries network.receives follows (held_at x.bundle k j n one.part there it) (omega arith) valid)) in
      ap (λ (s : PartState). with_own (reached exchange) one.part (granted_cycles world first one.part (slot * len) len s)) opened
      ∙ closed
      ∙ sym (ap (λ (p : AppPart). (with_ports (delivered x.bundle flying slot) p).state) (cycles_alone world first slot begun))

  stands_over : (number : ℕ) (part : Part) (grant : Grant) (exchange : Exchange) → IsExchange world grants slot number carried exchange → IsGrantOn world grants number part grant → stands_at (slot + 1) grant ≡ true
      → slot_by world slot exchange grant.start part (opened_view world slot grant part (view_by world slot number (Some grant) (Some part))) ≡ view_by world (slot + 1) number (Some grant) (Some part)
  stands_over number part grant exchange network is stands =
      let times = stands_parts (slot + 1) grant stands in
      let late = times.0 in
      let early : grant.start ≤ slot = omega arith in
      let before : grant.start ≤ slot + 1 = omega arith in
      let low : slot ≤ slot + 1 = omega arith in
      let alone = alone_part_on world grant slot number part sound is.on in
      let x : Holder world grants (slot + 1) = record { index = is.index; grant = grant; granted = is.granted; stands = stands; bundle = alone.bundle; bundled = alone.bundled } in
      let seen = view_alone world grant slot number part alone.one.state early (lasts_back slot (slot + 1) grant.end low times.1) (alone_state world grant slot number part sound alone) in
      let after = part_slot world.platform alone.bundle (grant.start * world.platform.slot_cycles) slot (flying_at world grants slot x) alone.one in
      let after_at = alone_after world alone.bundle grant.start slot alone.place alone.one early alone.one_there in
      let its : after.part ≡ part = slot_part world alone.bundle (grant.start * world.platform.slot_cycles) slot (flying_at world grants slot x) alone.one ∙ alone.its in
      let tile : alone.one.part.tile ≡ number = ap (λ (p : Part). p.tile) alone.its ∙ alone.tile in
      let network_on : IsExchange world grants slot alone.one.part.tile carried exchange = subst (λ n. IsExchange world grants slot n carried exchange) (sym tile) network in
      let over = part_over x alone.place alone.one exchange network_on (alone.there ∙ sym (ap (λ p. Some p) alone.its)) alone.one_there in
      let over_part : slot_by world slot exchange grant.start part alone.one.state ≡ after.state = subst (λ p. slot_by world slot exchange grant.start p alone.one.state ≡ after.state) alone.its over in
      ap (λ (s : PartState). slot_by world slot exchange grant.start part (opened_view world slot grant part s)) seen
      ∙ ap (slot_by world slot exchange grant.start part) (opened_alone world grant slot number part alone)
      ∙ over_part
      ∙ sym (view_alone world grant (slot + 1) number part after.state before times.1 (state_of_place world grant alone.bundle (slot + 1) number alone.place part after sound alone.bundled alone.there alone.tile after_at its))

  -- the view of a part a slot later
  pub view_next : (number : ℕ) (part : Part) (grant : Option Grant) (exchange : Exchange) → IsExchange world grants slot number carried exchange → ((g : Grant) → grant ≡ Some g → IsGrantOn world grants number part g)
      → view_slot world slot exchange grant (Some part) (view_by world slot number grant (Some part)) ≡ view_by world (slot + 1) number grant (Some part)
  view_next number part None exchange network is = refl
  view_next number part (Some grant) exchange network is = by (stands_at (slot + 1) grant) refl
    where
      view : PartState
      view = view_by world slot number (Some grant) (Some part)

      by : (b : Bool) → stands_at (slot + 1) grant ≡ b → cond b (slot_by world slot exchange grant.start part (opened_view world slot grant part view)) view ≡ view_by world (slot + 1) number (Some grant) (Some part)
      by true stands = stands_over number part grant exchange network (is grant refl) stands
      by false stays = ap (λ s. unwrap_or (alone_part world grant s number) (closed_part part.trace)) (sym (stop_still slot grant stays))
