-- What the engine's run comes to.
use Rattle.std.proofs.Common.{◌≡◌, ℕ, zero, suc, ◌+◌, ◌-◌, ◌*◌, ◌/◌, ◌%◌, ◌<◌, ◌≤◌, Bool, true, false, cond, ◌==◌, List, [], map, All, refl, sym, ap, ◌∙◌, subst, arith}
use Rattle.std.specs.List.{flat_map}
use Rattle.std.proofs.lemmas.List.{map-id}
use Rattle.soc_base.specs.Steps.{after_steps}
use Rattle.soc_base.proofs.Laws.{steps_split}
use Rattle.platform_model.specs.declared.platform.Platform.{Platform}
use Rattle.bundle_model.specs.declared.bundle.Pair.{Pair}
use Rattle.bundle_model.specs.declared.bundle.Bundle.{Bundle}
use Rattle.bundle_model.specs.Ways.{Way, pair_ways, ways_of}
use Rattle.alone_model.specs.Network.{AppPart}
use Rattle.alone_model.specs.App.{AppState, opening, part_step, with_new, with_cycle, with_due, app_cycle, alone_at}
use Rattle.alone_model.specs.Slots.{app_slot}
use Rattle.alone_model.specs.inner.Stretch.{part_steps, HasItsPorts}
use Rattle.alone_model.specs.inner.Told.{told}
use Rattle.alone_model.specs.inner.Exchange.{senders_of}
use Rattle.alone_model.proofs.Cycle.{map_twice, alone_is_slots}
use Rattle.alone_model.proofs.Ended.{HasEnded, ended_told}
use Rattle.alone_model.proofs.Steps.{none_leaves, none_due, steps_ports, opening_ports}

next_slot : (a b c : ℕ) → a < b → a * c + c ≤ b * c
next_slot a b c low =
    let e : b ≡ a + 1 + (b - (a + 1)) = omega arith in
    let wide : a * c + c ≤ (a + 1 + (b - (a + 1))) * c = grind arith in
    omega (arith, wide, ap (λ n. n * c) e)

-- a slot of a run lies within its cycles
pub slot_inside : (slot end len most : ℕ) → slot < end → end * len ≤ most → slot * len + len ≤ most
slot_inside slot end len most before inside = omega (arith, next_slot slot end len before)

-- where every part has ended, a trace tells already what it will
pub told_at_end : (platform : Platform) (bundle : Bundle) (first start slot end : ℕ) (old now : AppState) → start ≤ slot → slot ≤ end
    → now ≡ after_steps (app_slot platform bundle first) start (slot - start) old → All HasEnded now.parts
    → told now ≡ told (after_steps (app_slot platform bundle first) start (end - start) old)
told_at_end platform bundle first start slot end old now low high so_far ended =
    let step = app_slot platform bundle first in
    let count : end - start ≡ (slot - start) + (end - slot) = omega arith in
    let here : start + (slot - start) ≡ slot = omega arith in
    sym (ap (λ (n : ℕ). told (after_steps step start n old)) count
    ∙ ap told (steps_split step start (slot - start) (end - slot) old)
    ∙ ap (λ (k : ℕ). told (after_steps step k (end - slot) (after_steps step start (slot - start) old))) here
    ∙ ap (λ (a : AppState). told (after_steps step slot (end - slot) a)) (sym so_far)
    ∙ ended_told platform bundle first slot (end - slot) now ended)

-- an application whose bundle has no pair

no_ways : (bundle : Bundle) → bundle.pairs ≡ [] → ways_of bundle ≡ []
no_ways bundle none = ap (λ (pairs : List Pair). flat_map pair_ways pairs) none

either_way : (b : Bool) (x y : AppState) → x ≡ y → cond b x y ≡ y
either_way true x y same = same
either_way false x y same = refl

steps_count : (platform : Platform) (bundle : Bundle) (start cycle : ℕ) (parts : List AppPart) → All HasItsPorts parts
    → All HasItsPorts (map (part_step platform start cycle) parts)
unfolding after_steps
steps_count platform bundle start cycle parts count =
    let e : cycle + 0 ≡ cycle = omega arith in
    subst (λ (k : ℕ). All HasItsPorts (map (part_step platform start k) parts)) e (steps_ports platform bundle start cycle 1 parts count)

quiet_cycle : (platform : Platform) (bundle : Bundle) (start cycle : ℕ) (parts : List AppPart) → bundle.pairs ≡ [] → All HasItsPorts parts
    → app_cycle platform bundle start cycle (record { parts = parts; flying = [] })
    ≡ record { parts = map (part_step platform start cycle) parts; flying = [] }
quiet_cycle platform bundle start cycle parts none count =
    let slot = cycle / platform.slot_cycles in
    let place = cycle % platform.slot_cycles in
    let app : AppState = record { parts = parts; flying = [] } in
    let cycled : AppState = record { parts = map (part_step platform start cycle) parts; flying = [] } in
    let silent : senders_of (slot % platform.table_slots) 0 (ways_of bundle) ≡ [] = ap (λ (ways : List Way). senders_of (slot % platform.table_slots) 0 ways) (no_ways bundle none) in
    let sent : with_new platform bundle slot app ≡ app = sym (none_leaves platform bundle slot [] app (sym silent) refl count) in
    let received : with_due bundle slot cycled ≡ cycled = sym (none_due bundle slot [] cycled refl refl (steps_count platform bundle start cycle parts count)) in
    ap (λ (a : AppState). cond (place + 1 == platform.slot_cycles) (with_due bundle slot (with_cycle platform start cycle a)) (with_cycle platform start cycle a))
    (either_way (place == 0) (with_new platform bundle slot app) app sent)
    ∙ either_way (place + 1 == platform.slot_cycles) (with_due bundle slot cycled) cycled received

quiet_cycles : (platform : Platform) (bundle : Bundle) (start from n : ℕ) (parts : List AppPart) → bundle.pairs ≡ [] → All HasItsPorts parts
    → after_steps (app_cycle platform bundle start) from n (record { parts = parts; flying = [] })
    ≡ record { parts = map (after_steps (part_step platform start) from n) parts; flying = [] }
unfolding after_steps
quiet_cycles platform bundle start from zero parts none count =
    ap (λ (ps : List AppPart). record { parts = ps; flying = [] }) (sym (map-id parts))
quiet_cycles platform bundle start from (suc n) parts none count =
    ap (app_cycle platform bundle start (from + n)) (quiet_cycles platform bundle start from n parts none count)
    ∙ quiet_cycle platform bundle start (from + n) (map (after_steps (part_step platform start) from n) parts) none (steps_ports platform bundle start from n parts count)
    ∙ ap (λ (ps : List AppPart). record { parts = ps; flying = [] }) (map_twice (part_step platform start (from + n)) (after_steps (part_step platform start) from n) parts)

-- its parts go through their cycles each by itself
pub alone_quiet : (platform : Platform) (bundle : Bundle) (start end : ℕ) (old now : AppState) → bundle.pairs ≡ []
    → old ≡ opening platform bundle
    → now ≡ record old { parts = map (part_steps platform (start * platform.slot_cycles) (start * platform.slot_cycles) (end * platform.slot_cycles - start * platform.slot_cycles)) old.parts }
    → now ≡ alone_at platform bundle start end
unfolding alone_at
alone_quiet platform bundle start end old now none granted ran =
    let first : ℕ = start * platform.slot_cycles in
    let n : ℕ = end * platform.slot_cycles - first in
    let app = opening platform bundle in
    ran ∙ ap (λ (a : AppState). record a { parts = map (part_steps platform first first n) a.parts }) granted
    ∙ sym (quiet_cycles platform bundle first first n app.parts none (opening_ports platform bundle.parts))

-- and otherwise slot by slot
pub told_alone : (platform : Platform) (bundle : Bundle) (start end : ℕ) (old now : AppState) → old ≡ opening platform bundle
    → told now ≡ told (after_steps (app_slot platform bundle (start * platform.slot_cycles)) start (end - start) old)
    → told now ≡ told (alone_at platform bundle start end)
told_alone platform bundle start end old now granted ran =
    ran ∙ ap (λ (a : AppState). told (after_steps (app_slot platform bundle (start * platform.slot_cycles)) start (end - start) a)) granted
    ∙ sym (ap told (alone_is_slots platform bundle start end))
