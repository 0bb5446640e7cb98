-- The cycles of a slot are the slot.
use Rattle.std.proofs.Common.{◌≡◌, ℕ, zero, suc, ◌+◌, ◌-◌, ◌*◌, ◌/◌, ◌%◌, ◌<◌, ◌≤◌, false, not, cond, ◌==◌, List, [], ◌∷◌, map, filter, refl, sym, ap, ap₂, ◌∙◌, inl, inr, arith}
use Rattle.std.proofs.lemmas.Bool.{cases_lt, cond-true, cond-false, eq-eqb, ne_eqb}
use Rattle.std.proofs.lemmas.Nat.{mod-mul-add, div-mul-add}
use Rattle.soc_base.specs.Steps.{after_steps}
use Rattle.soc_base.proofs.Laws.{steps_split}
use Rattle.platform_model.specs.declared.platform.Platform.{Platform}
use Rattle.bundle_model.specs.declared.bundle.Bundle.{Bundle}
use Rattle.alone_model.specs.Network.{AppPart, with_ports, injected, is_due, delivered}
use Rattle.alone_model.specs.App.{AppState, opening, part_step, with_new, with_cycle, with_due, app_cycle, alone_at}
use Rattle.alone_model.specs.Slots.{part_cycles, app_slot}

pub map_twice : {X : Type 0} (g h : X → X) (xs : List X) → map g (map h xs) ≡ map (λ x. g (h x)) xs
map_twice g h [] = refl
map_twice g h (x ∷ xs) = ap (λ ys. g (h x) ∷ ys) (map_twice g h xs)

module _ (platform : Platform) (bundle : Bundle) (start slot : ℕ) (app : AppState) where
  abbrev len : ℕ
  len = platform.slot_cycles

  -- the application after the slot's injections
  abbrev begun : AppState
  begun = with_new platform bundle slot app

  -- and after so many of its cycles, before the deliveries
  abbrev mid : ℕ → AppState
  mid n = record { parts = map (after_steps (part_step platform start) (slot * len) n) begun.parts; flying = begun.flying }

  abbrev closed : ℕ → AppState → AppState
  closed n a = cond (n == len) (with_due bundle slot a) a

  abbrev run : ℕ → AppState
  run n = after_steps (app_cycle platform bundle start) (slot * len) n app

  slot_is : (n : ℕ) → n < len → (slot * len + n) / len ≡ slot
  slot_is n low = div-mul-add slot len n low

  place_is : (n : ℕ) → n < len → (slot * len + n) % len ≡ n
  place_is n low = mod-mul-add slot len n low

  -- a cycle in the slot, by its place in it
  cycle_at : (n : ℕ) (a : AppState) → n < len → app_cycle platform bundle start (slot * len + n) a
      ≡ cond (n + 1 == len) (with_due bundle slot (with_cycle platform start (slot * len + n) (cond (n == 0) (with_new platform bundle slot a) a))) (with_cycle platform start (slot * len + n) (cond (n == 0) (with_new platform bundle slot a) a))
  cycle_at n a low =
      ap₂ (λ o t. cond (o + 1 == len) (with_due bundle t (with_cycle platform start (slot * len + n) (cond (o == 0) (with_new platform bundle t a) a))) (with_cycle platform start (slot * len + n) (cond (o == 0) (with_new platform bundle t a) a))) (place_is n low) (slot_is n low)

  ended : (n : ℕ) (a : AppState) → cond (n + 1 == len) (with_due bundle slot a) a ≡ closed (suc n) a
  ended n a = let e : n + 1 ≡ suc n = omega arith in ap (λ m. cond (m == len) (with_due bundle slot a) a) e

  first_mid : with_cycle platform start (slot * len + 0) begun ≡ mid 1
  unfolding after_steps
  first_mid = refl

  next_mid : (n : ℕ) → with_cycle platform start (slot * len + n) (mid n) ≡ mid (suc n)
  unfolding after_steps
  next_mid n = ap (λ (parts : List AppPart). record { parts = parts; flying = begun.flying }) (map_twice (part_step platform start (slot * len + n)) (after_steps (part_step platform start) (slot * len) n) begun.parts)

  runs : (n : ℕ) → n < len → run (suc n) ≡ closed (suc n) (mid (suc n))
  unfolding after_steps
  runs zero low =
      cycle_at zero app low
      ∙ ended zero (with_cycle platform start (slot * len + 0) begun)
      ∙ ap (closed 1) first_mid
  runs (suc n) low =
      let before = runs n (omega arith) in
      let open_still : closed (suc n) (mid (suc n)) ≡ mid (suc n) = cond-false (suc n == len) _ _ (ne_eqb (suc n) len (λ e. let x = e in omega arith)) in
      let later : (suc n == 0) ≡ false = ne_eqb (suc n) 0 (λ e. let x = e in omega arith) in
      ap (app_cycle platform bundle start (slot * len + suc n)) (before ∙ open_still)
      ∙ cycle_at (suc n) (mid (suc n)) low
      ∙ ap (λ b. cond (suc n + 1 == len) (with_due bundle slot (with_cycle platform start (slot * len + suc n) (cond b (with_new platform bundle slot (mid (suc n))) (mid (suc n))))) (with_cycle platform start (slot * len + suc n) (cond b (with_new platform bundle slot (mid (suc n))) (mid (suc n))))) later
      ∙ ended (suc n) (with_cycle platform start (slot * len + suc n) (mid (suc n)))
      ∙ ap (closed (suc (suc n))) (next_mid (suc n))

  pub slot_of_cycles : run len ≡ app_slot platform bundle start slot app
  slot_of_cycles =
      let some = platform.slot_cycles_in_range.0 in
      let e : suc (len - 1) ≡ len = omega arith in
      let flying = begun.flying in
      let g : AppPart → AppPart = part_cycles platform start slot in
      let h : AppPart → AppPart = with_ports (injected platform bundle slot) in
      let f : AppPart → AppPart = with_ports (delivered bundle flying slot) in
      ap run (sym e)
      ∙ runs (len - 1) (omega arith)
      ∙ ap (λ n. closed n (mid n)) e
      ∙ cond-true (len == len) (with_due bundle slot (mid len)) (mid len) (eq-eqb len len refl)
      ∙ ap (λ (parts : List AppPart). record { parts = parts; flying = filter (λ x. not (is_due bundle slot x)) flying })
      (ap (map f) (map_twice g h app.parts) ∙ map_twice f (λ p. g (h p)) app.parts)

add_one-mul : (a b : ℕ) → (a + 1) * b ≡ a * b + b
add_one-mul a b = grind arith

mul_more : (a b c : ℕ) → a * c ≤ (a + b) * c
mul_more a b c = grind arith

-- so many slots from the granted one on
slots_of_cycles : (platform : Platform) (bundle : Bundle) (start count : ℕ) → let len = platform.slot_cycles in
    after_steps (app_cycle platform bundle (start * len)) (start * len) ((start + count) * len - start * len) (opening platform bundle)
    ≡ after_steps (app_slot platform bundle (start * len)) start count (opening platform bundle)
unfolding after_steps
slots_of_cycles platform bundle start zero =
    let len : ℕ = platform.slot_cycles in
    let f : start + 0 ≡ start = omega arith in
    let e : (start + 0) * len - start * len ≡ 0 = ap (λ n. n * len - start * len) f ∙ (let g : start * len - start * len ≡ 0 = omega arith in g) in
    ap (λ n. after_steps (app_cycle platform bundle (start * len)) (start * len) n (opening platform bundle)) e
slots_of_cycles platform bundle start (suc count) =
    let len : ℕ = platform.slot_cycles in
    let first : ℕ = start * len in
    let step = app_cycle platform bundle first in
    let before = slots_of_cycles platform bundle start count in
    let e : start + suc count ≡ start + count + 1 = omega arith in
    let wide : (start + count + 1) * len ≡ (start + count) * len + len = add_one-mul (start + count) len in
    let more : start * len ≤ (start + count) * len = mul_more start count len in
    let n : (start + count + 1) * len - first ≡ ((start + count) * len - first) + len = omega arith in
    let from : first + ((start + count) * len - first) ≡ (start + count) * len = omega arith in
    ap (λ s. after_steps step first (s * len - first) (opening platform bundle)) e
    ∙ ap (λ k. after_steps step first k (opening platform bundle)) n
    ∙ steps_split step first ((start + count) * len - first) len (opening platform bundle)
    ∙ ap₂ (λ k a. after_steps step k len a) from before
    ∙ slot_of_cycles platform bundle first (start + count) (after_steps (app_slot platform bundle first) start count (opening platform bundle))

-- where no slot is left, no cycle is
none_left : (a b c : ℕ) → a ≤ b → a * c - b * c ≡ 0
none_left a b c less =
    let e : b ≡ a + (b - a) = omega arith in
    let more : a * c ≤ (a + (b - a)) * c = mul_more a (b - a) c in
    ap (λ n. a * c - n * c) e ∙ (let none : a * c - (a + (b - a)) * c ≡ 0 = omega arith in none)

-- an application alone, cycle by cycle, is the application slot by slot
pub alone_is_slots : (platform : Platform) (bundle : Bundle) (start end : ℕ) → alone_at platform bundle start end
    ≡ after_steps (app_slot platform bundle (start * platform.slot_cycles)) start (end - start) (opening platform bundle)
unfolding alone_at
alone_is_slots platform bundle start end =
    let first : ℕ = start * platform.slot_cycles in
    let step = app_cycle platform bundle first in
    let len : ℕ = platform.slot_cycles in
    let count : end * len - first ≡ (start + (end - start)) * len - first = elim (cases_lt end start) [
      | inl before ↦
          let e : start + (end - start) ≡ start = omega arith in
          none_left end start len (omega arith) ∙ sym (ap (λ n. n * len - first) e ∙ none_left start start len (omega arith))
      | inr after ↦ let e : end ≡ start + (end - start) = omega arith in ap (λ n. n * len - first) e
    ] in
    ap (λ n. after_steps step first n (opening platform bundle)) count
    ∙ slots_of_cycles platform bundle start (end - start)

-- it begins as it was granted
pub alone_begins : (platform : Platform) (bundle : Bundle) (start : ℕ) → alone_at platform bundle start start ≡ opening platform bundle
unfolding after_steps
alone_begins platform bundle start =
    let e : start - start ≡ 0 = omega arith in
    alone_is_slots platform bundle start start
    ∙ ap (λ n. after_steps (app_slot platform bundle (start * platform.slot_cycles)) start n (opening platform bundle)) e

-- and a slot later has had the slot
pub alone_next : (platform : Platform) (bundle : Bundle) (start slot : ℕ) → start ≤ slot
    → alone_at platform bundle start (slot + 1) ≡ app_slot platform bundle (start * platform.slot_cycles) slot (alone_at platform bundle start slot)
unfolding after_steps
alone_next platform bundle start slot begun =
    let first : ℕ = start * platform.slot_cycles in
    let step = app_slot platform bundle first in
    let e : slot + 1 - start ≡ suc (slot - start) = omega arith in
    let f : start + (slot - start) ≡ slot = omega arith in
    alone_is_slots platform bundle start (slot + 1)
    ∙ ap (λ n. after_steps step start n (opening platform bundle)) e
    ∙ ap (λ s. step s (after_steps step start (slot - start) (opening platform bundle))) f
    ∙ ap (step slot) (sym (alone_is_slots platform bundle start slot))
