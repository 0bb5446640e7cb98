-- A part's cycles by stretches: those in which it doesn't run leave it, and in those in which it runs it
-- has one part cycle after another.
use Rattle.std.proofs.Common.{◌≡◌, ℕ, zero, suc, ◌+◌, ◌-◌, ◌*◌, ◌/◌, ◌%◌, ◌<◌, ◌≤◌, Bool, true, false, cond, nat_le, ◌&&◌, List, refl, sym, ap, ap₂, ◌∙◌, max, inl, inr, arith}
use Rattle.std.proofs.lemmas.Nat.{div-mul-add}
use Rattle.std.proofs.Math.Nat.{mod-eq-sub-div-mul, div-mul-le_self}
use Rattle.std.proofs.lemmas.Bool.{cases_lt}
use Rattle.std.proofs.lemmas.Bool.Decides.{nat_tests}
use Rattle.soc_base.specs.Time.{FrameTimes, instance_cycles, instance_at, offset_at, served_at, is_among, runs}
use Rattle.soc_base.specs.Slots.{slots_of}
use Rattle.soc_base.specs.Steps.{after_steps}
use Rattle.soc_base.proofs.Laws.{steps_split}
use Rattle.platform_model.specs.declared.platform.Platform.{Platform}
use Rattle.platform_model.specs.Platform.{frame_of}
use Rattle.part_model.specs.Part.{part_cycle}
use Rattle.alone_model.specs.Network.{AppPart}
use Rattle.alone_model.specs.App.{place_of, part_step}
use Rattle.alone_model.specs.inner.Stretch.{part_ran}

-- whether a part runs in a cycle, where its application was granted from cycle `start` on
abbrev pub runs_at : Platform → ℕ → AppPart → ℕ → Bool
runs_at platform start p cycle = runs (frame_of platform) (slots_of p.part.slots) start cycle

idle_step : (platform : Platform) (start cycle : ℕ) (p : AppPart) → runs_at platform start p cycle ≡ false
    → part_step platform start cycle p ≡ p
idle_step platform start cycle p idle = ap (λ (b : Bool). cond b (record p { state = part_cycle platform.costs (place_of p.part) cycle p.state }) p) idle

run_step : (platform : Platform) (start cycle : ℕ) (p : AppPart) → runs_at platform start p cycle ≡ true
    → part_step platform start cycle p ≡ record p { state = part_cycle platform.costs (place_of p.part) cycle p.state }
run_step platform start cycle p run = ap (λ (b : Bool). cond b (record p { state = part_cycle platform.costs (place_of p.part) cycle p.state }) p) run

-- a stretch in which a part doesn't run leaves it
pub idle_steps : (platform : Platform) (start from n : ℕ) (p : AppPart)
    → ((k : ℕ) → from ≤ k → k < from + n → runs_at platform start p k ≡ false)
    → after_steps (part_step platform start) from n p ≡ p
unfolding after_steps
idle_steps platform start from zero p idle = refl
idle_steps platform start from (suc n) p idle =
    ap (part_step platform start (from + n)) (idle_steps platform start from n p (λ k low high. idle k low (omega arith)))
    ∙ idle_step platform start (from + n) p (idle (from + n) (omega arith) (omega arith))

-- a stretch in which it runs gives it a part cycle in each
pub run_steps : (platform : Platform) (start from n : ℕ) (p : AppPart)
    → ((k : ℕ) → from ≤ k → k < from + n → runs_at platform start p k ≡ true)
    → after_steps (part_step platform start) from n p ≡ part_ran platform.costs from n p
unfolding after_steps
run_steps platform start from zero p run = refl
run_steps platform start from (suc n) p run =
    ap (part_step platform start (from + n)) (run_steps platform start from n p (λ k low high. run k low (omega arith)))
    ∙ run_step platform start (from + n) (part_ran platform.costs from n p) (run (from + n) (omega arith) (omega arith))

-- the instance and the offset of a cycle that lies in an instance
in_instance : (f : FrameTimes) (i k : ℕ) → i * instance_cycles f ≤ k → k < i * instance_cycles f + instance_cycles f
    → (instance_at f k ≡ i) × (offset_at f k ≡ k - i * instance_cycles f)
in_instance f i k low high =
    let len = instance_cycles f in
    let is : i * len + (k - i * len) ≡ k = omega arith in
    let instance : k / len ≡ i = ap (λ (n : ℕ). n / len) (sym is) ∙ div-mul-add i len (k - i * len) (omega arith) in
    (instance, mod-eq-sub-div-mul k len ∙ ap (λ (n : ℕ). k - n * len) instance)

-- in one instance a part runs in all cycles past the microkernel's or in none
same_runs : (f : FrameTimes) (slots : List ℕ) (start a b : ℕ) → instance_at f a ≡ instance_at f b
    → f.kernel ≤ offset_at f a → f.kernel ≤ offset_at f b → runs f slots start a ≡ runs f slots start b
same_runs f slots start a b same past_a past_b =
    let past : nat_le f.kernel (offset_at f a) ≡ nat_le f.kernel (offset_at f b) = grind (arith, nat_tests) in
    ap₂ (λ (late : Bool) (i : ℕ). late && is_among (i % f.slots) slots && nat_le start (i * instance_cycles f)) past same

-- and in none of the microkernel's
no_runs : (f : FrameTimes) (slots : List ℕ) (start k : ℕ) → offset_at f k < f.kernel → runs f slots start k ≡ false
no_runs f slots start k early =
    let past : nat_le f.kernel (offset_at f k) ≡ false = grind (arith, nat_tests) in
    ap (λ (late : Bool). late && is_among (served_at f k) slots && nat_le start (instance_at f k * instance_cycles f)) past

-- the cycles from `from` to `to - 1`, all in one instance, whose first past the microkernel's is `first`
pub record InInstance (f : FrameTimes) (from first to : ℕ) : Type 0 where
  pub ordered : from ≤ to
  pub within : to ≤ from - offset_at f from + f.kernel + f.partition
  pub is : first ≡ max from (from - offset_at f from + f.kernel)

-- the instance begins at a multiple of its length
begins_at : (f : FrameTimes) (from : ℕ) → from - offset_at f from ≡ instance_at f from * instance_cycles f
begins_at f from = omega (arith, mod-eq-sub-div-mul from (instance_cycles f), div-mul-le_self from (instance_cycles f))

-- where such cycles lie
lies : (f : FrameTimes) (from first to k : ℕ) → InInstance f from first to → from ≤ k → k < to
    → (instance_at f k ≡ instance_at f from) × (offset_at f k ≡ k - (from - offset_at f from))
lies f from first to k here low high =
    let begin = begins_at f from in
    let place = in_instance f (instance_at f from) k (omega (arith, begin, here.within)) (omega (arith, begin, here.within)) in
    (place.0, place.1 ∙ ap (λ (n : ℕ). k - n) (sym begin))

-- where the part runs in none of them
pub idle_instance : (platform : Platform) (start from first to : ℕ) (p : AppPart)
    → InInstance (frame_of platform) from first to → (first < to → runs_at platform start p first ≡ false)
    → after_steps (part_step platform start) from (to - from) p ≡ p
idle_instance platform start from first to p here idle =
    let f = frame_of platform in
    idle_steps platform start from (to - from) p (λ k low high.
    let place = lies f from first to k here low (omega (arith, here.ordered)) in
    elim (cases_lt k first) [
      | inl before ↦ no_runs f (slots_of p.part.slots) start k (omega (arith, place.1, here.is))
      | inr past ↦
          let there = lies f from first to first here (omega (arith, here.is)) (omega (arith, here.ordered)) in
          same_runs f (slots_of p.part.slots) start k first (place.0 ∙ sym there.0) (omega (arith, place.1, here.is)) (omega (arith, there.1, here.is)) ∙ idle (omega (arith, here.ordered))
    ])

-- where it runs in the first past the microkernel's
pub run_instance : (platform : Platform) (start from first to : ℕ) (p : AppPart)
    → InInstance (frame_of platform) from first to → first < to → runs_at platform start p first ≡ true
    → after_steps (part_step platform start) from (to - from) p ≡ part_ran platform.costs first (to - first) p
run_instance platform start from first to p here some run =
    let f = frame_of platform in
    let there = lies f from first to first here (omega (arith, here.is)) some in
    let idle = idle_steps platform start from (first - from) p (λ k low high.
    let place = lies f from first to k here low (omega (arith, some, here.is)) in
    no_runs f (slots_of p.part.slots) start k (omega (arith, place.1, here.is))) in
    let runs_on = run_steps platform start first (to - first) p (λ k low high.
    let place = lies f from first to k here (omega (arith, here.is)) (omega arith) in
    same_runs f (slots_of p.part.slots) start k first (place.0 ∙ sym there.0) (omega (arith, place.1, here.is)) (omega (arith, there.1, here.is)) ∙ run) in
    let count : to - from ≡ (first - from) + (to - first) = omega (arith, some, here.is) in
    let at : from + (first - from) ≡ first = omega (arith, here.is) in
    let step = part_step platform start in
    ap (λ (n : ℕ). after_steps step from n p) count
    ∙ steps_split step from (first - from) (to - first) p
    ∙ ap₂ (λ (k : ℕ) (q : AppPart). after_steps step k (to - first) q) at idle
    ∙ runs_on

-- a state goes on from one number to another, and then to a third
pub steps_join : {S : Type 0} (step : ℕ → S → S) (from at to : ℕ) (old now new : S) → from ≤ at → at ≤ to
    → now ≡ after_steps step from (at - from) old → new ≡ after_steps step at (to - at) now
    → new ≡ after_steps step from (to - from) old
steps_join step from at to old now new low high before after =
    let count : to - from ≡ (at - from) + (to - at) = omega arith in
    let here : from + (at - from) ≡ at = omega arith in
    sym (ap (λ (n : ℕ). after_steps step from n old) count
    ∙ steps_split step from (at - from) (to - at) old
    ∙ ap₂ (λ k s. after_steps step k (to - at) s) here (sym before)
    ∙ sym after)
