-- A part's log keeps its room, and no more rows than fit.
use Rattle.std.proofs.Common.{◌≡◌, ℕ, ◌+◌, ◌-◌, ◌*◌, ◌^◌, ◌<◌, ◌≤◌, min, Bool, true, false, cond, nat_lt, List, [], ◌∷◌, ◌++◌, length, map, All, length-append, refl, ap, ap₂, ◌∙◌, zero, suc, arith}
use Rattle.std.proofs.lemmas.List.Elements.{All-weaker}
use Rattle.soc_base.specs.Time.{runs}
use Rattle.soc_base.specs.Steps.{after_steps}
use Rattle.platform_model.specs.declared.platform.Platform.{Platform}
use Rattle.platform_model.specs.Platform.{frame_of}
use Rattle.trace_log.specs.declared.row.TraceRow.{TraceRow}
use Rattle.trace_log.specs.Log.{Log, logged}
use Rattle.bundle_model.specs.declared.bundle.Part.{Part}
use Rattle.bundle_model.specs.declared.bundle.Bundle.{Bundle}
use Rattle.bundle_model.specs.Ways.{ways_of}
use Rattle.soc_base.specs.Slots.{slots_of}
use Rattle.part_model.proofs.Laws.{IsKept, cycle_keeps}
use Rattle.alone_model.specs.Network.{AppPart, Flying, new_flits}
use Rattle.alone_model.specs.App.{AppState, place_of, opening_part, opening, alone_at}
use Rattle.alone_model.specs.Slots.{part_slot, app_slot}
use Rattle.alone_model.proofs.Cycle.{alone_is_slots}
use Rattle.alone_model.proofs.Kept.{IsKeptInSlots, slot_keeps, alone_keeps, step_by}

pub record LogFits (trace : ℕ) (log : Log) : Type 0 where
  pub room : log.room ≡ trace
  pub few : length log.rows ≤ trace

logged_when : (trace : ℕ) (row : TraceRow) (log : Log) (b : Bool) → nat_lt (length log.rows) log.room ≡ b
    → LogFits trace log
    → LogFits trace (cond b (record log { rows = log.rows ++ row ∷ [] }) (record log { cut = min (log.cut + 1) (2 ^ 64 - 1) }))
logged_when trace row log true e fits =
    let inside : length log.rows < log.room = grind arith in
    record { room = fits.room; few = omega (arith, length-append log.rows (row ∷ []), inside, fits.room) }
logged_when trace row log false e fits = record { room = fits.room; few = fits.few }

logged_fits : (trace : ℕ) (row : TraceRow) (log : Log) → LogFits trace log → LogFits trace (logged row log)
unfolding logged
logged_fits trace row log fits = logged_when trace row log _ refl fits

-- a log that fits still does after a row or an end
log_kept : (trace : ℕ) → IsKept (λ bytes ports log. LogFits trace log)
log_kept trace = record {
  store = λ bytes ports log addr width value done fits. fits;
  put = λ bytes ports log number port word after there done fits. fits;
  take = λ bytes ports log number port taken there done fits. fits;
  row = λ bytes ports log row fits. logged_fits trace row log fits;
  end = λ bytes ports log end fits. record { room = fits.room; few = fits.few };
}

-- so a part of an application alone has at most as many rows as its bundle says
abbrev PartFits : AppPart → Type 0
PartFits p = LogFits p.part.trace p.state.log

parts_fit : (platform : Platform) (bundle : Bundle) (start : ℕ) → IsKeptInSlots platform bundle start PartFits
parts_fit platform bundle start = record {
  injects = λ slot p fits. fits;
  steps = λ cycle p fits.
      step_by platform start cycle PartFits p (runs (frame_of platform) (slots_of p.part.slots) start cycle) _ fits
      (cycle_keeps (λ bytes ports log. LogFits p.part.trace log) (log_kept p.part.trace) platform.costs (place_of p.part) cycle p.state fits);
  delivers = λ flying slot p fits. fits;
}

-- each part has at most as many rows as its trace keeps
pub alone_fits : (platform : Platform) (bundle : Bundle) (start end : ℕ)
    → All (λ p. length p.state.log.rows ≤ p.part.trace) (alone_at platform bundle start end).parts
alone_fits platform bundle start end =
    All-weaker PartFits (λ p. length p.state.log.rows ≤ p.part.trace) (λ p fits. fits.few) (alone_at platform bundle start end).parts
    (alone_keeps platform bundle start end PartFits (parts_fit platform bundle (start * platform.slot_cycles)) (λ part. record { room = refl; few = omega arith }))

-- its part is always the same
pub part_stays : (platform : Platform) (bundle : Bundle) (start : ℕ) (part : Part) → IsKeptInSlots platform bundle start (λ p. p.part ≡ part)
part_stays platform bundle start part = record {
  injects = λ slot p same. same;
  steps = λ cycle p same.
      step_by platform start cycle (λ q. q.part ≡ part) p (runs (frame_of platform) (slots_of p.part.slots) start cycle) _ same same;
  delivers = λ flying slot p same. same;
}

slot_part : (platform : Platform) (bundle : Bundle) (start slot : ℕ) (flying : List Flying) (parts : List AppPart)
    → map (λ p. p.part) (map (part_slot platform bundle start slot flying) parts) ≡ map (λ p. p.part) parts
slot_part platform bundle start slot flying [] = refl
slot_part platform bundle start slot flying (p ∷ parts) =
    ap₂ (λ (x : Part) (xs : List Part). x ∷ xs) (slot_keeps platform bundle start (λ q. q.part ≡ p.part) (part_stays platform bundle start p.part) slot flying p refl)
    (slot_part platform bundle start slot flying parts)

slots_part : (platform : Platform) (bundle : Bundle) (start from n : ℕ) (app : AppState)
    → map (λ p. p.part) (after_steps (app_slot platform bundle start) from n app).parts ≡ map (λ p. p.part) app.parts
unfolding after_steps
slots_part platform bundle start from zero app = refl
slots_part platform bundle start from (suc n) app =
    let before = after_steps (app_slot platform bundle start) from n app in
    slot_part platform bundle start (from + n) (new_flits platform before.parts (from + n) 0 (ways_of bundle) ++ before.flying) before.parts
    ∙ slots_part platform bundle start from n app

opening_parts : (platform : Platform) (parts : List Part) → map (λ p. p.part) (map (opening_part platform) parts) ≡ parts
opening_parts platform [] = refl
opening_parts platform (part ∷ parts) = ap (λ (xs : List Part). part ∷ xs) (opening_parts platform parts)

-- an application alone has the parts of its bundle
pub alone_parts : (platform : Platform) (bundle : Bundle) (start end : ℕ) → map (λ p. p.part)
    (alone_at platform bundle start end).parts ≡ bundle.parts
alone_parts platform bundle start end =
    ap (λ (app : AppState). map (λ p. p.part) app.parts) (alone_is_slots platform bundle start end)
    ∙ slots_part platform bundle (start * platform.slot_cycles) start (end - start) (opening platform bundle)
    ∙ opening_parts platform bundle.parts
