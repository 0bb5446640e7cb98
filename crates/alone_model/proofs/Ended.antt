-- A part that has ended changes no more, but its ports. So once all parts have ended a trace stays.
use Rattle.std.proofs.Common.{◌≡◌, ℕ, zero, suc, ◌+◌, Bool, true, false, cond, List, [], ◌∷◌, ◌++◌, map, All, IfOk, Result, Ok, Err, refl, sym, ap, ap₂, ◌∙◌, subst}
use Rattle.std.specs.List.{flat_map}
use Rattle.std.specs.List.Sorted.{IsPermutation}
use Rattle.std.proofs.lemmas.List.Elements.{All-head, All-tail}
use Rattle.soc_base.specs.Time.{runs}
use Rattle.soc_base.specs.Steps.{after_steps}
use Rattle.soc_base.specs.Slots.{slots_of}
use Rattle.soc_base.proofs.Laws.{steps_still}
use Rattle.platform_model.specs.declared.platform.Platform.{Platform}
use Rattle.platform_model.specs.Platform.{frame_of}
use Rattle.trace_log.specs.declared.row.TraceRow.{TraceRow}
use Rattle.trace_log.specs.Log.{Log, has_ended}
use Rattle.bundle_model.specs.declared.bundle.Part.{Part}
use Rattle.bundle_model.specs.declared.bundle.Bundle.{Bundle}
use Rattle.bundle_model.specs.Ways.{ways_of}
use Rattle.part_model.specs.Part.{PartState}
use Rattle.part_model.proofs.Laws.{ended_still}
use Rattle.alone_model.specs.declared.trace.PartTrace.{PartTrace}
use Rattle.alone_model.specs.declared.trace.AppTrace.{AppTrace}
use Rattle.alone_model.specs.Network.{AppPart, Flying, with_ports, injected, new_flits, delivered}
use Rattle.alone_model.specs.App.{AppState, place_of, part_step}
use Rattle.alone_model.specs.Slots.{part_slot, app_slot}
use Rattle.alone_model.specs.Trace.{IsTraceOf, kept_rows, part_trace}
use Rattle.alone_model.specs.inner.Told.{part_told, told}
use Rattle.alone_model.proofs.Kept.{IsKeptInSlots, slots_keep}

same_part : (b : Bool) (p : AppPart) (next : PartState) → next ≡ p.state → cond b (record p { state = next }) p ≡ p
same_part true p next e = ap (λ (state : PartState). record p { state = state }) e
same_part false p next e = refl

step_still : (platform : Platform) (start cycle : ℕ) (p : AppPart) → has_ended p.state.log.end ≡ true
    → part_step platform start cycle p ≡ p
step_still platform start cycle p ended =
    same_part (runs (frame_of platform) (slots_of p.part.slots) start cycle) p _ (ended_still platform.costs (place_of p.part) cycle p.state ended)

-- so its cycles leave it
pub ended_stays : (platform : Platform) (start from n : ℕ) (p : AppPart) → has_ended p.state.log.end ≡ true
    → after_steps (part_step platform start) from n p ≡ p
ended_stays platform start from n p ended = steps_still (part_step platform start) from n p (λ cycle. step_still platform start cycle p ended)

-- a part that has ended
abbrev pub HasEnded : AppPart → Type 0
HasEnded p = has_ended p.state.log.end ≡ true

ends_kept : (platform : Platform) (bundle : Bundle) (start : ℕ) → IsKeptInSlots platform bundle start HasEnded
ends_kept platform bundle start = record {
  injects = λ slot p ended. ended;
  steps = λ cycle p ended. subst HasEnded (sym (step_still platform start cycle p ended)) ended;
  delivers = λ flying slot p ended. ended;
}

-- what a trace tells of it stays
slot_told : (platform : Platform) (bundle : Bundle) (start slot : ℕ) (flying : List Flying) (p : AppPart) → HasEnded p
    → part_told (part_slot platform bundle start slot flying p) ≡ part_told p
slot_told platform bundle start slot flying p ended =
    ap (λ (q : AppPart). part_told (with_ports (delivered bundle flying slot) q)) (ended_stays platform start _ _ (with_ports (injected platform bundle slot) p) ended)

slots_told : (platform : Platform) (bundle : Bundle) (start slot : ℕ) (flying : List Flying) (parts : List AppPart) → All HasEnded parts
    → map part_told (map (part_slot platform bundle start slot flying) parts) ≡ map part_told parts
slots_told platform bundle start slot flying [] ended = refl
slots_told platform bundle start slot flying (p ∷ parts) ended =
    ap₂ (λ (x : Part × Log) (xs : List (Part × Log)). x ∷ xs) (slot_told platform bundle start slot flying p (All-head HasEnded p parts ended))
    (slots_told platform bundle start slot flying parts (All-tail HasEnded p parts ended))

-- once all parts have ended, what a trace tells of the application stays
pub ended_told : (platform : Platform) (bundle : Bundle) (start from n : ℕ) (app : AppState) → All HasEnded app.parts
    → told (after_steps (app_slot platform bundle start) from n app) ≡ told app
unfolding after_steps
ended_told platform bundle start from zero app ended = refl
ended_told platform bundle start from (suc n) app ended =
    let before = after_steps (app_slot platform bundle start) from n app in
    slots_told platform bundle start (from + n) (new_flits platform before.parts (from + n) 0 (ways_of bundle) ++ before.flying) before.parts
    (slots_keep platform bundle start HasEnded (ends_kept platform bundle start) from n app ended)
    ∙ ended_told platform bundle start from n app ended

rows_told : (parts : List AppPart) → flat_map (λ (t : Part × Log). t.1.rows) (map part_told parts) ≡ flat_map (λ (p : AppPart). p.state.log.rows) parts
rows_told [] = refl
rows_told (p ∷ parts) = ap (λ (rows : List TraceRow). p.state.log.rows ++ rows) (rows_told parts)

abbrev trace_of : Part × Log → PartTrace
trace_of t = record { tile = t.0.tile; end = t.1.end; cut = t.1.cut }

traces_told : (parts : List AppPart) → map trace_of (map part_told parts) ≡ map part_trace parts
traces_told [] = refl
traces_told (p ∷ parts) = ap (λ (traces : List PartTrace). part_trace p ∷ traces) (traces_told parts)

-- the trace of an application is that of another of which it tells the same
pub trace_told : (one other : AppState) (t : AppTrace) → told one ≡ told other → IsTraceOf one t → IsTraceOf other t
trace_told one other t same trace =
    let rows : kept_rows one ≡ kept_rows other = sym (rows_told one.parts) ∙ ap (flat_map (λ (l : Part × Log). l.1.rows)) same ∙ rows_told other.parts in
    let parts : map part_trace one.parts ≡ map part_trace other.parts = sym (traces_told one.parts) ∙ ap (map trace_of) same ∙ traces_told other.parts in
    record {
      rows = subst (λ (rows : List TraceRow). IsPermutation rows t.rows) rows trace.rows;
      in_order = trace.in_order;
      parts = trace.parts ∙ parts;
    }

pub traced_so : {E : Type 0} (result : Result AppTrace E) (one other : AppState) → told one ≡ told other → IfOk result (IsTraceOf one)
    → IfOk result (IsTraceOf other)
traced_so (Ok t) one other same trace = trace_told one other t same trace
traced_so (Err refused) one other same trace = tt
