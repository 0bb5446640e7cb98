-- The port at an end, by the place of its part and its own place there, and how it goes through a slot.
use Rattle.std.proofs.Common.{◌≡◌, ℕ, zero, suc, ◌+◌, ◌*◌, ◌<◌, Bool, true, false, cond, ◌==◌, List, [], ◌∷◌, map, length, get_or, slice_get, Some, option_map, refl, sym, ap, ap₂, ◌∙◌, subst, arith}
use Rattle.std.specs.Option.{option_map_or}
use Rattle.std.proofs.lemmas.Bool.{cond-true, cond-false, eqb-true, eq-eqb, ne_eqb}
use Rattle.std.proofs.lemmas.Option.{none-some, same_Some, slice_get-map, slice_get_within, slice_get-get_or, get_or_from_slice_get}
use Rattle.soc_base.specs.Steps.{after_steps}
use Rattle.soc_base.specs.Time.{runs}
use Rattle.soc_base.specs.Slots.{slots_of}
use Rattle.soc_base.specs.Port.{free_port}
use Rattle.ni_port.specs.SizedPort.{SizedPort}
use Rattle.platform_model.specs.declared.platform.Platform.{Platform}
use Rattle.platform_model.specs.Platform.{frame_of}
use Rattle.bundle_model.specs.declared.bundle.End.{End}
use Rattle.bundle_model.specs.declared.bundle.Part.{Part}
use Rattle.bundle_model.specs.declared.bundle.Bundle.{Bundle}
use Rattle.bundle_model.specs.WellFormed.{IsHeldEnd, IsWellFormed}
use Rattle.bundle_model.proofs.Laws.{found_at, one_part, one_port}
use Rattle.part_model.specs.Part.{part_cycle}
use Rattle.part_model.proofs.Laws.{IsSamePort, cycle_ports}
use Rattle.alone_model.specs.Network.{AppPart, each_port, with_ports, port_among, port_of}
use Rattle.alone_model.specs.App.{place_of, part_step}
use Rattle.alone_model.specs.Slots.{part_cycles}
use Rattle.alone_model.proofs.Kept.{cycles_keep}
use Rattle.alone_model.proofs.KeptLogs.{part_stays}

-- a port of an application's parts
pub record IsPortAt (parts : List AppPart) (k j : ℕ) (part : Part) (p : SizedPort) : Type 0 where
  pub one : AppPart
  pub there : slice_get parts k ≡ Some one
  pub its : one.part ≡ part
  pub port : slice_get one.state.ports j ≡ Some p

each_port-at : (f : ℕ → SizedPort → SizedPort) (numbers : List ℕ) (ports : List SizedPort) (j n : ℕ) (p : SizedPort)
    → slice_get numbers j ≡ Some n → slice_get ports j ≡ Some p → slice_get (each_port f numbers ports) j ≡ Some (f n p)
each_port-at f [] ports j n p at there = absurd (none-some n at)
each_port-at f (m ∷ numbers) [] j n p at there = absurd (none-some p there)
each_port-at f (m ∷ numbers) (q ∷ ports) zero n p at there = ap₂ (λ a b. Some (f a b)) (same_Some m n at) (same_Some q p there)
each_port-at f (m ∷ numbers) (q ∷ ports) (suc j) n p at there = each_port-at f numbers ports j n p at there

-- where ports change by their numbers
pub changed_at : (f : ℕ → ℕ → SizedPort → SizedPort) (parts : List AppPart) (k j n : ℕ) (part : Part) (p : SizedPort)
    → slice_get part.ports j ≡ Some n → IsPortAt parts k j part p → IsPortAt (map (with_ports f) parts) k j part (f part.tile n p)
changed_at f parts k j n part p number at = record {
  one = with_ports f at.one;
  there = slice_get-map (with_ports f) parts k ∙ ap (option_map (with_ports f)) at.there;
  its = at.its;
  port = ap (λ (r : Part). slice_get (each_port (f r.tile) r.ports at.one.state.ports) j) at.its ∙ each_port-at (f part.tile) part.ports at.one.state.ports j n p number at.port;
}

still_port : (p : SizedPort) → IsSamePort p p
still_port p = record { queue = refl; credit = refl; places = refl }

then_port : (a b c : SizedPort) → IsSamePort a b → IsSamePort b c → IsSamePort a c
then_port a b c first second = record {
  queue = second.queue ∙ first.queue;
  credit = second.credit ∙ first.credit;
  places = second.places ∙ first.places;
}

step_port : (platform : Platform) (start cycle : ℕ) (q : AppPart) (j : ℕ) (port : SizedPort) → slice_get q.state.ports j ≡ Some port
    → (c : SizedPort) × (slice_get (part_step platform start cycle q).state.ports j ≡ Some c) × IsSamePort port c
step_port platform start cycle q j port there = by (runs (frame_of platform) (slots_of q.part.slots) start cycle)
  where
    by : (b : Bool) → (c : SizedPort)
        × (slice_get (cond b (record q { state = part_cycle platform.costs (place_of q.part) cycle q.state }) q).state.ports j ≡ Some c) × IsSamePort port c
    by true =
        let after = (part_cycle platform.costs (place_of q.part) cycle q.state).ports in
        let same = cycle_ports platform.costs (place_of q.part) cycle q.state in
        let inside = slice_get_within q.state.ports j port there in
        let below : j < length after = omega (arith, inside, same.count) in
        let old = get_or_from_slice_get q.state.ports j port port there in
        (get_or after j port, slice_get-get_or after j port below, subst (λ (p : SizedPort). IsSamePort p (get_or after j port)) old (same.each j port inside))
    by false = (port, there, still_port port)

steps_port : (platform : Platform) (start from n : ℕ) (q : AppPart) (j : ℕ) (port : SizedPort) → slice_get q.state.ports j ≡ Some port
    → (c : SizedPort) × (slice_get (after_steps (part_step platform start) from n q).state.ports j ≡ Some c) × IsSamePort port c
unfolding after_steps
steps_port platform start from zero q j port there = (port, there, still_port port)
steps_port platform start from (suc n) q j port there =
    let before = steps_port platform start from n q j port there in
    let next = step_port platform start (from + n) (after_steps (part_step platform start) from n q) j before.0 before.1 in
    (next.0, next.1, then_port port before.0 next.0 before.2 next.2)

-- and through the cycles of a slot
pub cycled_at : (platform : Platform) (bundle : Bundle) (start slot : ℕ) (parts : List AppPart) (k j : ℕ) (part : Part) (p : SizedPort)
    → IsPortAt parts k j part p
    → (c : SizedPort) × IsSamePort p c × IsPortAt (map (part_cycles platform start slot) parts) k j part c
cycled_at platform bundle start slot parts k j part p at =
    let moved = steps_port platform start (slot * platform.slot_cycles) platform.slot_cycles at.one j p at.port in (
      moved.0,
      moved.2,
      record {
        one = part_cycles platform start slot at.one;
        there = slice_get-map (part_cycles platform start slot) parts k ∙ ap (option_map (part_cycles platform start slot)) at.there;
        its = cycles_keep platform bundle start (λ q. q.part ≡ part) (part_stays platform bundle start part) _ _ at.one at.its;
        port = moved.1;
      },
    )

-- what changes parts and leaves of which bundle they are
pub parts_same : (f : AppPart → AppPart) (parts : List AppPart) → ((p : AppPart) → (f p).part ≡ p.part)
    → map (λ p. p.part) (map f parts) ≡ map (λ p. p.part) parts
parts_same f [] same = refl
parts_same f (p ∷ parts) same = ap₂ (λ (x : Part) (xs : List Part). x ∷ xs) (same p) (parts_same f parts same)

among_place : (numbers : List ℕ) (ports : List SizedPort) (n j : ℕ) (p : SizedPort) → slice_get numbers j ≡ Some n → slice_get ports j ≡ Some p
    → ((i : ℕ) → slice_get numbers i ≡ Some n → i ≡ j) → port_among numbers ports n ≡ p.port
among_place [] ports n j p at there alone = absurd (none-some n at)
among_place (m ∷ numbers) [] n j p at there alone = absurd (none-some p there)
among_place (m ∷ numbers) (q ∷ ports) n zero p at there alone =
    cond-true (m == n) q.port (port_among numbers ports n) (eq-eqb m n (same_Some m n at)) ∙ ap (λ (r : SizedPort). r.port) (same_Some q p there)
among_place (m ∷ numbers) (q ∷ ports) n (suc j) p at there alone =
    let isnt : (m == n) ≡ false = ne_eqb m n (λ same. let one : zero ≡ suc j = alone zero (ap (λ (k : ℕ). Some k) same) in omega arith) in
    cond-false (m == n) q.port (port_among numbers ports n) isnt
    ∙ among_place numbers ports n j p at there (λ i it. let one : suc i ≡ suc j = alone (suc i) it in omega arith)

-- the port at an end is the one at its places
pub port_of_at : (platform : Platform) (bundle : Bundle) (parts : List AppPart) (end : End) (held : IsHeldEnd bundle end) (p : SizedPort)
    → IsWellFormed platform bundle → map (λ q. q.part) parts ≡ bundle.parts → IsPortAt parts held.place held.index held.part p → port_of parts end ≡ p.port
port_of_at platform bundle parts end held p well are at =
    let found = found_at (λ (q : AppPart). q.part.tile == end.tile) parts held.place at.one at.there
    (eq-eqb at.one.part.tile end.tile (ap (λ (r : Part). r.tile) at.its ∙ held.tile))
    (λ j q there passes.
    let its : slice_get bundle.parts j ≡ Some q.part = ap (λ (ps : List Part). slice_get ps j) (sym are) ∙ slice_get-map (λ (r : AppPart). r.part) parts j ∙ ap (option_map (λ (r : AppPart). r.part)) there in
    one_part platform bundle j held.place q.part held.part well its held.there (eqb-true q.part.tile end.tile passes ∙ sym held.tile)) in
    ap (λ o. option_map_or (λ (q : AppPart). port_among q.part.ports q.state.ports end.port) o free_port) found
    ∙ ap (λ (r : Part). port_among r.ports at.one.state.ports end.port) at.its
    ∙ among_place held.part.ports at.one.state.ports end.port held.index p held.port at.port
    (λ i it. one_port platform bundle held.place i held.index end.port held.part well held.there it held.port)
