-- What each step of a slot keeps of a part is true of it in every slot.
use Rattle.std.proofs.Common.{ℕ, zero, suc, ◌+◌, ◌-◌, ◌*◌, Bool, true, false, cond, List, ◌++◌, All, sym, subst}
use Rattle.std.proofs.lemmas.List.Elements.{All-map, All-weaker}
use Rattle.soc_base.specs.Steps.{after_steps}
use Rattle.platform_model.specs.declared.platform.Platform.{Platform}
use Rattle.bundle_model.specs.declared.bundle.Part.{Part}
use Rattle.bundle_model.specs.declared.bundle.Bundle.{Bundle}
use Rattle.bundle_model.specs.Ways.{ways_of}
use Rattle.alone_model.specs.Network.{AppPart, Flying, with_ports, injected, new_flits, delivered}
use Rattle.alone_model.specs.App.{AppState, opening_part, opening, part_step, alone_at}
use Rattle.alone_model.specs.Slots.{part_slot, app_slot}
use Rattle.alone_model.proofs.Cycle.{alone_is_slots}

-- a property of a part that its injections, its cycles and its deliveries keep, where its application was
-- granted from cycle `start` on
pub record IsKeptInSlots (platform : Platform) (bundle : Bundle) (start : ℕ) (P : AppPart → Type 0) : Type 0 where
  pub injects : (slot : ℕ) (p : AppPart) → P p → P (with_ports (injected platform bundle slot) p)
  pub steps : (cycle : ℕ) (p : AppPart) → P p → P (part_step platform start cycle p)
  pub delivers : (flying : List Flying) (slot : ℕ) (p : AppPart) → P p → P (with_ports (delivered bundle flying slot) p)

module _ (platform : Platform) (bundle : Bundle) (start : ℕ) (P : AppPart → Type 0) (kept : IsKeptInSlots platform bundle start P) where
  pub cycles_keep : (from n : ℕ) (p : AppPart) → P p → P (after_steps (part_step platform start) from n p)
  unfolding after_steps
  cycles_keep from zero p holds = holds
  cycles_keep from (suc n) p holds = kept.steps (from + n) _ (cycles_keep from n p holds)

  pub slot_keeps : (slot : ℕ) (flying : List Flying) (p : AppPart) → P p → P (part_slot platform bundle start slot flying p)
  slot_keeps slot flying p holds =
      kept.delivers flying slot _ (cycles_keep _ _ _ (kept.injects slot p holds))

  pub app_keeps : (slot : ℕ) (app : AppState) → All P app.parts → All P (app_slot platform bundle start slot app).parts
  app_keeps slot app holds =
      let flying = new_flits platform app.parts slot 0 (ways_of bundle) ++ app.flying in
      let step = part_slot platform bundle start slot flying in
      All-map P step app.parts (All-weaker P (λ p. P (step p)) (slot_keeps slot flying) app.parts holds)

  pub slots_keep : (from n : ℕ) (app : AppState) → All P app.parts → All P (after_steps (app_slot platform bundle start) from n app).parts
  unfolding after_steps
  slots_keep from zero app holds = holds
  slots_keep from (suc n) app holds = app_keeps (from + n) _ (slots_keep from n app holds)

-- so it is true of the parts of an application alone, where it is when they are granted
pub alone_keeps : (platform : Platform) (bundle : Bundle) (start end : ℕ) (P : AppPart → Type 0)
    → IsKeptInSlots platform bundle (start * platform.slot_cycles) P → ((part : Part) → P (opening_part platform part))
    → All P (alone_at platform bundle start end).parts
alone_keeps platform bundle start end P kept begins =
    subst (λ (app : AppState). All P app.parts) (sym (alone_is_slots platform bundle start end))
    (slots_keep platform bundle (start * platform.slot_cycles) P kept start (end - start) (opening platform bundle)
    (All-map P (opening_part platform) bundle.parts (λ k d inside. begins _)))

-- a step in which a part may run
pub step_by : (platform : Platform) (start cycle : ℕ) (P : AppPart → Type 0) (p : AppPart) (b : Bool) (next : AppPart) → P p → P next → P (cond b next p)
step_by platform start cycle P p true next before after = after
step_by platform start cycle P p false next before after = before
