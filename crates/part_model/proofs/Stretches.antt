-- How a part goes through cycles in each of which it runs.
use Rattle.std.proofs.Common.{◌≡◌, ℕ, zero, suc, ◌+◌, ◌-◌, ◌<◌, ◌≤◌, Bool, true, false, cond, nat_lt, Option, Some, None, refl, sym, ap, ◌∙◌, arith}
use Rattle.std.specs.Option.{option_map_or}
use Rattle.std.proofs.lemmas.Bool.{false≢true}
use Rattle.std.proofs.lemmas.Bool.Decides.{nat_tests}
use Rattle.soc_base.specs.Steps.{after_steps}
use Rattle.soc_base.proofs.Laws.{steps_still}
use Rattle.platform_model.specs.declared.costs.Costs.{Costs}
use Rattle.trace_log.specs.declared.row.PartEnd.{PartEnd}
use Rattle.trace_log.specs.declared.row.PartEnd.TheVariants.{Live, Halt, Fault}
use Rattle.trace_log.specs.Log.{has_ended}
use Rattle.rv_core.specs.declared.instr.Instr.{Instr}
use Rattle.rv_core.specs.Registers.{Registers}
use Rattle.rv_core.specs.Decoding.{decode_of}
use Rattle.cycle_table.specs.Cost.{cost_of, cost_of_instr}
use Rattle.part_model.specs.declared.record.Place.{Place}
use Rattle.part_model.specs.Running.{running_cycle, charged, effect_at, instr_of, decoded_or_illegal}
use Rattle.part_model.specs.Part.{PartState, part_bus, bus_of, settled, unless_ended, part_cycle}
use Rattle.part_model.specs.inner.Steps.{cost_with, word_at_pc, due_in, completed}

unless_still : (end : PartEnd) (p next : PartState) → has_ended end ≡ true → unless_ended end p next ≡ p
unless_still Live p next ended = absurd (false≢true ended)
unless_still (Halt code cycle) p next ended = refl
unless_still (Fault cause cycle) p next ended = refl

unless_live : (end : PartEnd) (p next : PartState) → has_ended end ≡ false → unless_ended end p next ≡ next
unless_live Live p next live = refl
unless_live (Halt code cycle) p next live = grind arith
unless_live (Fault cause cycle) p next live = grind arith

-- a part that has ended does nothing
pub ended_still : (costs : Costs) (place : Place) (cycle : ℕ) (p : PartState) → has_ended p.log.end ≡ true
    → part_cycle costs place cycle p ≡ p
unfolding part_cycle
ended_still costs place cycle p ended = unless_still p.log.end p _ ended

-- in any number of cycles
pub ended_stays : (costs : Costs) (place : Place) (from n : ℕ) (p : PartState) → has_ended p.log.end ≡ true
    → after_steps (part_cycle costs place) from n p ≡ p
ended_stays costs place from n p ended = steps_still (part_cycle costs place) from n p (λ cycle. ended_still costs place cycle p ended)

-- a live part's cycle, by whether its instruction needs more cycles
live_part : Costs → Place → ℕ → PartState → Bool → PartState
live_part costs place cycle p more =
    settled place cycle p.regs.pc (cond more (charged (due_in costs p - 1) p.regs (bus_of place cycle p)) (effect_at part_bus p.regs (bus_of place cycle p) (word_at_pc p)))

live_is : (costs : Costs) (place : Place) (cycle : ℕ) (p : PartState) → has_ended p.log.end ≡ false
    → part_cycle costs place cycle p ≡ live_part costs place cycle p (nat_lt 1 (due_in costs p))
unfolding part_cycle running_cycle live_part
live_is costs place cycle p live = unless_live p.log.end p _ live

-- a cycle in which `left` alone falls
pub charges : (costs : Costs) (place : Place) (cycle : ℕ) (p : PartState) → has_ended p.log.end ≡ false
    → 1 < due_in costs p → part_cycle costs place cycle p ≡ record p { left = due_in costs p - 1 }
unfolding live_part
charges costs place cycle p live more =
    let test : nat_lt 1 (due_in costs p) ≡ true = grind (arith, nat_tests) in
    live_is costs place cycle p live ∙ ap (live_part costs place cycle p) test

-- the cycle in which an instruction has its effect
pub completes : (costs : Costs) (place : Place) (cycle : ℕ) (p : PartState) → has_ended p.log.end ≡ false
    → due_in costs p ≤ 1 → part_cycle costs place cycle p ≡ completed place cycle p (instr_of (word_at_pc p))
unfolding live_part
completes costs place cycle p live last =
    let test : nat_lt 1 (due_in costs p) ≡ false = grind (arith, nat_tests) in
    live_is costs place cycle p live ∙ ap (live_part costs place cycle p) test

-- an instruction under way needs what is left of it
due_left : (costs : Costs) (p : PartState) (left : ℕ) → 0 < left → due_in costs (record p { left = left }) ≡ left
due_left costs p left some = grind (arith, nat_tests)

-- cycles in which `left` alone falls
pub waits : (costs : Costs) (place : Place) (from n : ℕ) (p : PartState) → has_ended p.log.end ≡ false
    → suc n < due_in costs p
    → after_steps (part_cycle costs place) from (suc n) p ≡ record p { left = due_in costs p - suc n }
unfolding after_steps
waits costs place from zero p live more = charges costs place (from + 0) p live (omega arith)
waits costs place from (suc n) p live more =
    let left = due_in costs p - suc n in
    let before = waits costs place from n p live (omega arith) in
    let due = due_left costs p left (omega arith) in
    let count : due_in costs (record p { left = left }) - 1 ≡ due_in costs p - suc (suc n) = omega (arith, due) in
    ap (part_cycle costs place (from + suc n)) before
    ∙ charges costs place (from + suc n) (record p { left = left }) live (omega (arith, due))
    ∙ ap (λ (left : ℕ). record p { left = left }) count

-- the cycles of an instruction up to its effect
pub does : (costs : Costs) (place : Place) (from n : ℕ) (p : PartState) → has_ended p.log.end ≡ false
    → due_in costs p ≡ suc n
    → after_steps (part_cycle costs place) from (suc n) p ≡ completed place (from + n) p (instr_of (word_at_pc p))
unfolding after_steps
does costs place from zero p live due = completes costs place (from + 0) p live (omega arith)
does costs place from (suc n) p live due =
    let left = due_in costs p - suc n in
    let before = waits costs place from n p live (omega arith) in
    ap (part_cycle costs place (from + suc n)) before
    ∙ completes costs place (from + suc n) (record p { left = left }) live (omega (arith, due_left costs p left (omega arith)))

-- the same for a count that isn't 0
pub waits_for : (costs : Costs) (place : Place) (from n : ℕ) (p : PartState) → has_ended p.log.end ≡ false → 0 < n
    → n < due_in costs p → after_steps (part_cycle costs place) from n p ≡ record p { left = due_in costs p - n }
waits_for costs place from zero p live some more = absurd (omega arith)
waits_for costs place from (suc n) p live some more = waits costs place from n p live more

pub does_in : (costs : Costs) (place : Place) (from n : ℕ) (p : PartState) → has_ended p.log.end ≡ false → 0 < n
    → n ≡ due_in costs p
    → after_steps (part_cycle costs place) from n p ≡ completed place (from + (n - 1)) p (instr_of (word_at_pc p))
does_in costs place from zero p live some due = absurd (omega arith)
does_in costs place from (suc n) p live some due =
    let last : suc n - 1 ≡ n = omega arith in
    does costs place from n p live (sym due) ∙ ap (λ (k : ℕ). completed place (from + k) p (instr_of (word_at_pc p))) (sym last)

cost_of_decoded : (costs : Costs) (regs : Registers) (instr : Option Instr)
    → option_map_or (cost_of_instr costs regs) instr 1 ≡ cost_with costs regs (decoded_or_illegal instr)
cost_of_decoded costs regs None = refl
cost_of_decoded costs regs (Some instr) = refl

-- the cost of a word is that of what it stands for
pub cost_of_word : (costs : Costs) (regs : Registers) (word : Option ℕ)
    → cost_of costs regs word ≡ cost_with costs regs (instr_of word)
unfolding cost_of
cost_of_word costs regs None = refl
cost_of_word costs regs (Some word) = cost_of_decoded costs regs (decode_of word)
