-- What is true of an application alone in every slot: its flits were injected in slots of their channels,
-- and before the slot at hand; each port has the platform's queues, and no more credit than they have places.
use Rattle.std.proofs.Common.{◌≡◌, ℕ, zero, suc, ◌+◌, ◌-◌, ◌*◌, ◌%◌, ◌<◌, ◌≤◌, ◌⊎◌, Bool, true, false, not, cond, ◌==◌, List, [], ◌∷◌, ◌++◌, map, find, length, get_or, slice_get, Option, Some, None, refl, sym, ap, ◌∙◌, subst, inl, inr, arith}
use Rattle.std.specs.Option.{option_map_or}
use Rattle.std.proofs.lemmas.Option.{none-some, same_Some, slice_get_within, slice_get-get_or, get_or_from_slice_get}
use Rattle.soc_base.specs.Steps.{after_steps}
use Rattle.soc_base.specs.Time.{is_among, runs}
use Rattle.soc_base.specs.Slots.{slots_of}
use Rattle.soc_base.specs.Port.{PortState, inject_from}
use Rattle.ni_port.specs.SizedPort.{SizedPort, after_inject, after_deliver, granted_sized}
use Rattle.platform_model.specs.declared.platform.Platform.{Platform}
use Rattle.platform_model.specs.Platform.{frame_of}
use Rattle.bundle_model.specs.declared.bundle.Part.{Part}
use Rattle.bundle_model.specs.declared.bundle.Bundle.{Bundle}
use Rattle.bundle_model.specs.Ways.{Way, ways_of}
use Rattle.part_model.proofs.Laws.{AreSamePorts, cycle_ports}
use Rattle.bundle_model.proofs.Laws.{at_place, filtered_place}
use Rattle.alone_model.specs.Network.{AppPart, Flying, each_port, with_ports, injects, injected, new_flits, is_due, lands, delivered}
use Rattle.alone_model.specs.App.{AppState, place_of, opening_part, opening, alone_at}
use Rattle.alone_model.specs.Slots.{app_slot}
use Rattle.alone_model.proofs.Cycle.{alone_is_slots}
use Rattle.alone_model.proofs.Flight.{new_at}
use Rattle.alone_model.proofs.Kept.{IsKeptInSlots, alone_keeps, step_by}

-- the ports of a part are of the platform's size, and their credit is within it
abbrev pub IsModest : Platform → SizedPort → Type 0
IsModest platform p = (p.queue ≡ platform.queue) × (p.port.credit ≤ platform.queue)

pub record AreModest (platform : Platform) (p : AppPart) : Type 0 where
  pub each : (j : ℕ) (port : SizedPort) → slice_get p.state.ports j ≡ Some port → IsModest platform port

each_port_from : (f : ℕ → SizedPort → SizedPort) (numbers : List ℕ) (ports : List SizedPort) (j : ℕ) (p : SizedPort)
    → slice_get (each_port f numbers ports) j ≡ Some p → (n : ℕ) × (q : SizedPort) × (slice_get ports j ≡ Some q) × (f n q ≡ p)
each_port_from f (n ∷ numbers) (q ∷ ports) zero p there = (n, q, refl, same_Some (f n q) p there)
each_port_from f (n ∷ numbers) (q ∷ ports) (suc j) p there = each_port_from f numbers ports j p there
each_port_from f (n ∷ numbers) [] j p there = absurd (none-some p there)
each_port_from f [] ports j p there = absurd (none-some p there)

changed_modest : (platform : Platform) (f : ℕ → ℕ → SizedPort → SizedPort) (p : AppPart)
    → ((n : ℕ) (port : SizedPort) → IsModest platform port → IsModest platform (f p.part.tile n port))
    → AreModest platform p → AreModest platform (with_ports f p)
changed_modest platform f p keeps modest = record {
  each = λ j port there.
      let at = each_port_from (f p.part.tile) p.part.ports p.state.ports j port there in
      subst (IsModest platform) at.3 (keeps at.0 at.1 (modest.each j at.1 at.2));
}

inject_less : (words : List ℕ) (p : PortState) → (inject_from words p).1.credit ≤ p.credit
inject_less [] p = omega arith
inject_less (word ∷ words) p = omega arith

injected_modest : (platform : Platform) (bundle : Bundle) (slot tile n : ℕ) (p : SizedPort) → IsModest platform p
    → IsModest platform (injected platform bundle slot tile n p)
injected_modest platform bundle slot tile n p (size, low) = by (injects platform bundle slot tile n)
  where
    by : (b : Bool) → IsModest platform (cond b (after_inject p) p)
    by true = let less = inject_less (cond (p.port.credit == 0) [] p.port.send) p.port in (size, omega (arith, less, low))
    by false = (size, low)

delivered_modest : (platform : Platform) (bundle : Bundle) (flying : List Flying) (slot tile n : ℕ) (p : SizedPort) → IsModest platform p
    → IsModest platform (delivered bundle flying slot tile n p)
delivered_modest platform bundle flying slot tile n p (size, low) = by (find (lands bundle slot tile n) flying)
  where
    by : (o : Option Flying) → IsModest platform (option_map_or (λ (f : Flying). after_deliver f.flit p) o p)
    by None = (size, low)
    by (Some f) = (size, omega (arith, size))

same_modest : (platform : Platform) (before after : List SizedPort) (j : ℕ) (port : SizedPort) → AreSamePorts before after
    → ((k : ℕ) (p : SizedPort) → slice_get before k ≡ Some p → IsModest platform p) → slice_get after j ≡ Some port → IsModest platform port
same_modest platform before after j port same modest there =
    let inside = slice_get_within after j port there in
    let below : j < length before = omega (arith, inside, same.count) in
    let old = get_or before j port in
    let one = same.each j port below in
    let is : get_or after j port ≡ port = get_or_from_slice_get after j port port there in
    let was = modest j old (slice_get-get_or before j port below) in
    subst (IsModest platform) is (one.queue ∙ was.0, omega (arith, one.credit, was.1))

pub modest_kept : (platform : Platform) (bundle : Bundle) (start : ℕ) → IsKeptInSlots platform bundle start (AreModest platform)
modest_kept platform bundle start = record {
  injects = λ slot p modest. changed_modest platform (injected platform bundle slot) p (λ n port low. injected_modest platform bundle slot p.part.tile n port low) modest;
  steps = λ cycle p modest.
      step_by platform start cycle (AreModest platform) p (runs (frame_of platform) (slots_of p.part.slots) start cycle) _ modest
      (record { each = λ j port there. same_modest platform p.state.ports _ j port (cycle_ports platform.costs (place_of p.part) cycle p.state) modest.each there });
  delivers = λ flying slot p modest. changed_modest platform (delivered bundle flying slot) p (λ n port low. delivered_modest platform bundle flying slot p.part.tile n port low) modest;
}

granted_from : (platform : Platform) (numbers : List ℕ) (j : ℕ) (port : SizedPort)
    → slice_get (map (λ (n : ℕ). granted_sized platform.queue) numbers) j ≡ Some port → granted_sized platform.queue ≡ port
granted_from platform [] j port there = absurd (none-some port there)
granted_from platform (n ∷ numbers) zero port there = same_Some (granted_sized platform.queue) port there
granted_from platform (n ∷ numbers) (suc j) port there = granted_from platform numbers j port there

opening_modest : (platform : Platform) (part : Part) → AreModest platform (opening_part platform part)
opening_modest platform part = record {
  each = λ j port there. subst (IsModest platform) (granted_from platform part.ports j port there) (refl, omega arith);
}

-- each port of an application alone
pub alone_modest : (platform : Platform) (bundle : Bundle) (start end k : ℕ) (p : AppPart)
    → slice_get (alone_at platform bundle start end).parts k ≡ Some p → AreModest platform p
alone_modest platform bundle start end k p there =
    at_place (AreModest platform) (alone_at platform bundle start end).parts k p
    (alone_keeps platform bundle start end (AreModest platform) (modest_kept platform bundle (start * platform.slot_cycles)) (opening_modest platform)) there

-- each flit on its way was injected in a slot of its channel, before the slot at hand
pub record AreInjected (platform : Platform) (bundle : Bundle) (slot : ℕ) (flying : List Flying) : Type 0 where
  pub each : (k : ℕ) (f : Flying) → slice_get flying k ≡ Some f
      → (way : Way) × (slice_get (ways_of bundle) f.number ≡ Some way) × (is_among (f.since % platform.table_slots) way.slots ≡ true) × (f.since < slot)

pub append_cases : {X : Type 0} (xs ys : List X) (k : ℕ) (x : X) → slice_get (xs ++ ys) k ≡ Some x
    → ((j : ℕ) × (slice_get xs j ≡ Some x)) ⊎ ((j : ℕ) × (slice_get ys j ≡ Some x))
append_cases [] ys k x there = inr (k, there)
append_cases (y ∷ xs) ys zero x there = inl (0, there)
append_cases (y ∷ xs) ys (suc k) x there = elim (append_cases xs ys k x there) [
  | inl at ↦ inl (suc at.0, at.1)
  | inr at ↦ inr at
]

-- what flies after a slot's injections
pub new_injected : (platform : Platform) (bundle : Bundle) (slot : ℕ) (app : AppState) → AreInjected platform bundle slot app.flying
    → AreInjected platform bundle (slot + 1) (new_flits platform app.parts slot 0 (ways_of bundle) ++ app.flying)
new_injected platform bundle slot app sound = record {
  each = λ k f there. elim (append_cases (new_flits platform app.parts slot 0 (ways_of bundle)) app.flying k f there) [
    | inl at ↦
        let new = new_at platform app.parts slot 0 (ways_of bundle) at.0 f at.1 in
        let e : 0 + new.place ≡ new.place = omega arith in
        let since : f.since ≡ slot = ap (λ (g : Flying). g.since) new.is in
        (new.way, ap (slice_get (ways_of bundle)) (ap (λ (g : Flying). g.number) new.is ∙ e) ∙ new.there, ap (λ s. is_among (s % platform.table_slots) new.way.slots) since ∙ new.among, omega (arith, since))
    | inr at ↦ let old = sound.each at.0 f at.1 in (old.0, old.1, old.2, omega (arith, old.3))
  ];
}

pub slot_injected : (platform : Platform) (bundle : Bundle) (start slot : ℕ) (app : AppState) → AreInjected platform bundle slot app.flying
    → AreInjected platform bundle (slot + 1) (app_slot platform bundle start slot app).flying
slot_injected platform bundle start slot app sound = record {
  each = λ k f there.
      let at = filtered_place (λ g. not (is_due bundle slot g)) (new_flits platform app.parts slot 0 (ways_of bundle) ++ app.flying) k f there in
      (new_injected platform bundle slot app sound).each at.0 f at.1;
}

slots_injected : (platform : Platform) (bundle : Bundle) (first start n : ℕ) (app : AppState) → AreInjected platform bundle start app.flying
    → AreInjected platform bundle (start + n) (after_steps (app_slot platform bundle first) start n app).flying
unfolding after_steps
slots_injected platform bundle first start zero app sound =
    let e : start ≡ start + 0 = omega arith in
    subst (λ (slot : ℕ). AreInjected platform bundle slot app.flying) e sound
slots_injected platform bundle first start (suc n) app sound =
    let e : start + n + 1 ≡ start + suc n = omega arith in
    let before = after_steps (app_slot platform bundle first) start n app in
    subst (λ (slot : ℕ). AreInjected platform bundle slot (app_slot platform bundle first (start + n) before).flying) e
    (slot_injected platform bundle first (start + n) before (slots_injected platform bundle first start n app sound))

pub alone_injected : (platform : Platform) (bundle : Bundle) (start slot : ℕ) → start ≤ slot
    → AreInjected platform bundle slot (alone_at platform bundle start slot).flying
alone_injected platform bundle start slot begun =
    let e : start + (slot - start) ≡ slot = omega arith in
    let opened : AreInjected platform bundle start (opening platform bundle).flying = record { each = λ k f there. absurd (none-some f there) } in
    subst (λ (app : AppState). AreInjected platform bundle slot app.flying) (sym (alone_is_slots platform bundle start slot))
    (subst (λ (s : ℕ). AreInjected platform bundle s (after_steps (app_slot platform bundle (start * platform.slot_cycles)) start (slot - start) (opening platform bundle)).flying) e
    (slots_injected platform bundle (start * platform.slot_cycles) start (slot - start) (opening platform bundle) opened))
