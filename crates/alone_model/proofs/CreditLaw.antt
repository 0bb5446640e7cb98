-- The law of credits.
use Rattle.std.proofs.Common.{◌≡◌, ℕ, zero, suc, ◌+◌, ◌-◌, ◌*◌, ◌≤◌, map, find, length, slice_get, Some, option_map, refl, sym, ap, ◌∙◌, subst, arith}
use Rattle.std.specs.Option.{option_map_or}
use Rattle.std.proofs.lemmas.Option.{slice_get-map}
use Rattle.soc_base.specs.Port.{WordAndCredits, PortState, idle}
use Rattle.ni_port.specs.SizedPort.{granted_sized}
use Rattle.platform_model.specs.declared.platform.Platform.{Platform}
use Rattle.bundle_model.specs.declared.bundle.End.{End}
use Rattle.bundle_model.specs.declared.bundle.Bundle.{Bundle}
use Rattle.bundle_model.specs.Ways.{Way, way_of, ways_of}
use Rattle.bundle_model.specs.WellFormed.{IsHeldEnd, IsWellFormed}
use Rattle.bundle_model.proofs.Laws.{way_at}
use Rattle.alone_model.specs.Network.{Flying, with_ports, injected, port_of, lands, flit_on}
use Rattle.alone_model.specs.App.{AppState, opening_part, opening, with_new, alone_at}
use Rattle.alone_model.specs.Slots.{part_cycles}
use Rattle.alone_model.specs.Credits.{sum_below, words_of, words_on, credits_on, IsBalanced, before_due, HasPlaces, CreditsBalance}
use Rattle.alone_model.proofs.Channels.{there_at, back_at}
use Rattle.alone_model.proofs.Cycle.{alone_begins, alone_next}
use Rattle.alone_model.proofs.Kept.{cycles_keep}
use Rattle.alone_model.proofs.KeptLogs.{part_stays, alone_parts}
use Rattle.alone_model.proofs.Sound.{alone_modest, alone_injected}
use Rattle.alone_model.proofs.PortPlaces.{IsPortAt, parts_same, port_of_at}
use Rattle.alone_model.proofs.Balance.{Stands, SlotBalance, slot_balance, due_lands}

sum_zero : (f : ℕ → ℕ) (n : ℕ) → ((k : ℕ) → f k ≡ 0) → sum_below f n ≡ 0
sum_zero f zero none = refl
sum_zero f (suc n) none = let rest = sum_zero f n none in let last = none n in omega arith

module _ (platform : Platform) (bundle : Bundle) (well : IsWellFormed platform bundle) (start : ℕ) where
  abbrev first : ℕ
  first = start * platform.slot_cycles

  abbrev alone : ℕ → AppState
  alone slot = alone_at platform bundle start slot

  opening_port : (end : End) (held : IsHeldEnd bundle end) → IsPortAt (opening platform bundle).parts held.place held.index held.part (granted_sized platform.queue)
  opening_port end held = record {
    one = opening_part platform held.part;
    there = slice_get-map (opening_part platform) bundle.parts held.place ∙ ap (option_map (opening_part platform)) held.there;
    its = refl;
    port = slice_get-map (λ (n : ℕ). granted_sized platform.queue) held.part.ports held.index ∙ ap (option_map (λ (n : ℕ). granted_sized platform.queue)) held.port;
  }

  opening_stands : (n r : ℕ) (way back : Way) (source : IsHeldEnd bundle way.from) (target : IsHeldEnd bundle way.to)
      → Stands platform bundle n r way back source target start (opening platform bundle)
  opening_stands n r way back source target = record {
    near = granted_sized platform.queue;
    far = granted_sized platform.queue;
    near_at = opening_port way.from source;
    far_at = opening_port way.to target;
    sum =
        let none = sum_zero (λ hop. words_of (flit_on (opening platform bundle).flying start n hop)) (length way.path) (λ k. refl) in
        let free = sum_zero (λ hop. (flit_on (opening platform bundle).flying start r hop).credits) (length back.path) (λ k. refl) in
        omega arith;
  }

  -- a channel and the one back, between ends that parts hold
  module _ (n r : ℕ) (way back : Way) (way_there : slice_get (ways_of bundle) n ≡ Some way) (back_there : slice_get (ways_of bundle) r ≡ Some back)
      (from : back.from ≡ way.to) (to : back.to ≡ way.from) (source : IsHeldEnd bundle way.from) (target : IsHeldEnd bundle way.to) where
    step : (slot : ℕ) → (begun : start ≤ slot) → Stands platform bundle n r way back source target slot (alone slot)
        → SlotBalance platform bundle well first slot (alone slot) (alone_parts platform bundle start slot) (alone_injected platform bundle start slot begun)
        (λ k j one p there port. (alone_modest platform bundle start slot k one there).each j p port) n r way back source target
    step slot begun stands =
        slot_balance platform bundle well first slot (alone slot) (alone_parts platform bundle start slot) (alone_injected platform bundle start slot begun)
        (λ k j one p there port. (alone_modest platform bundle start slot k one there).each j p port)
        n r way back way_there back_there from to source target stands

    stands_from : (count : ℕ) → Stands platform bundle n r way back source target (start + count) (alone (start + count))
    stands_from zero =
        let e : start ≡ start + 0 = omega arith in
        subst (λ (slot : ℕ). Stands platform bundle n r way back source target slot (alone slot)) e
        (subst (Stands platform bundle n r way back source target start) (sym (alone_begins platform bundle start)) (opening_stands n r way back source target))
    stands_from (suc count) =
        let slot : ℕ = start + count in
        let e : start + count + 1 ≡ start + suc count = omega arith in
        subst (λ (slot : ℕ). Stands platform bundle n r way back source target slot (alone slot)) e
        (subst (Stands platform bundle n r way back source target (start + count + 1)) (sym (alone_next platform bundle start (start + count) (omega arith)))
        (step (start + count) (omega arith) (stands_from count)).stands)

    stands_at : (slot : ℕ) → start ≤ slot → Stands platform bundle n r way back source target slot (alone slot)
    stands_at slot begun =
        let e : start + (slot - start) ≡ slot = omega arith in
        subst (λ (slot : ℕ). Stands platform bundle n r way back source target slot (alone slot)) e (stands_from (slot - start))

    -- the sum, by the ports at the ends
    balanced : (slot : ℕ) → start ≤ slot → IsBalanced platform (alone slot) slot n way r back
    balanced slot begun =
        let is = stands_at slot begun in
        let parts = alone_parts platform bundle start slot in
        let near = port_of_at platform bundle (alone slot).parts way.from source is.near well parts is.near_at in
        let far = port_of_at platform bundle (alone slot).parts way.to target is.far well parts is.far_at in
        let sum = is.sum in
        record {
          sum = ap (λ (p : PortState). p.credit + words_on (alone slot).flying slot n way + (length (port_of (alone slot).parts way.to).recv + (port_of (alone slot).parts way.to).owed) + credits_on (alone slot).flying slot r back) near
              ∙ ap (λ (p : PortState). is.near.port.credit + words_on (alone slot).flying slot n way + (length p.recv + p.owed) + credits_on (alone slot).flying slot r back) far ∙ sum;
        }

    abbrev late : ℕ → AppState
    late slot = before_due platform bundle first slot (alone slot)

    late_parts : (slot : ℕ) → map (λ p. p.part) (late slot).parts ≡ bundle.parts
    late_parts slot =
        parts_same (part_cycles platform first slot) (with_new platform bundle slot (alone slot)).parts
        (λ p. cycles_keep platform bundle first (λ q. q.part ≡ p.part) (part_stays platform bundle first p.part) _ _ p refl)
        ∙ parts_same (with_ports (injected platform bundle slot)) (alone slot).parts (λ p. refl)
        ∙ alone_parts platform bundle start slot

    -- what is on the last links, and the places for it
    word_place : (slot : ℕ) → start ≤ slot
        → words_of (flit_on (alone slot).flying slot n (length way.path - 1)) + (length (port_of (late slot).parts way.to).recv + (port_of (late slot).parts way.to).owed) ≤ platform.queue
    word_place slot begun =
        let done = step slot begun (stands_at slot begun) in
        let far = port_of_at platform bundle (late slot).parts way.to target done.far well (late_parts slot) done.far_late in
        subst (λ (p : PortState). words_of (flit_on (alone slot).flying slot n (length way.path - 1)) + (length p.recv + p.owed) ≤ platform.queue) (sym far) done.no_drop

    credit_place : (slot : ℕ) → start ≤ slot
        → (port_of (late slot).parts way.from).credit + (flit_on (alone slot).flying slot r (length back.path - 1)).credits ≤ platform.queue
    credit_place slot begun =
        let done = step slot begun (stands_at slot begun) in
        let near = port_of_at platform bundle (late slot).parts way.from source done.near well (late_parts slot) done.near_late in
        subst (λ (p : PortState). p.credit + (flit_on (alone slot).flying slot r (length back.path - 1)).credits ≤ platform.queue) (sym near) done.no_cut

    -- what lands is on the last link
    landed : (slot : ℕ) → start ≤ slot → (f : Flying) → find (lands bundle slot way.to.tile way.to.port) (late slot).flying ≡ Some f
        → flit_on (alone slot).flying slot n (length way.path - 1) ≡ f.flit
    landed slot begun f found =
        ap (λ o. option_map_or (λ (g : Flying). g.flit) o idle)
        (sym (due_lands platform bundle well first slot (alone slot) (alone_parts platform bundle start slot) (alone_injected platform bundle start slot begun)
        (λ k j one p there port. (alone_modest platform bundle start slot k one there).each j p port) n way way_there) ∙ found)

places_by : (platform : Platform) (app : AppState) (end : End) (one other : WordAndCredits) → one ≡ other
    → words_of one + (length (port_of app.parts end).recv + (port_of app.parts end).owed) ≤ platform.queue
    → (port_of app.parts end).credit + one.credits ≤ platform.queue → HasPlaces platform app end other
places_by platform app end one other same word credits = subst (HasPlaces platform app end) same (record { word = word; credits = credits })

-- each pair of a well-formed bundle is in balance in both directions, and loses nothing
pub credits_balance : CreditsBalance
credits_balance platform bundle start slot place pair well begun at =
    let first : ℕ = start * platform.slot_cycles in
    let app = alone_at platform bundle start slot in
    let late = before_due platform bundle first slot app in
    let there = way_of pair.a pair.b pair.there in
    let back = way_of pair.b pair.a pair.back in
    let n : ℕ = place * 2 in
    let r : ℕ = place * 2 + 1 in
    let n_there = there_at bundle.pairs place pair at in
    let r_there = back_at bundle.pairs place pair at in
    let a = (way_at platform bundle n there well n_there).source in
    let b = (way_at platform bundle n there well n_there).target in (
      balanced platform bundle well start n r there back n_there r_there refl refl a b slot begun,
      balanced platform bundle well start r n back there r_there n_there refl refl b a slot begun,
      (λ f found. places_by platform late pair.a _ f.flit (landed platform bundle well start r n back there r_there n_there refl refl b a slot begun f found)
          (word_place platform bundle well start r n back there r_there n_there refl refl b a slot begun)
          (credit_place platform bundle well start n r there back n_there r_there refl refl a b slot begun)),
      (λ f found. places_by platform late pair.b _ f.flit (landed platform bundle well start n r there back n_there r_there refl refl a b slot begun f found)
          (word_place platform bundle well start n r there back n_there r_there refl refl a b slot begun)
          (credit_place platform bundle well start r n back there r_there n_there refl refl b a slot begun)),
    )
