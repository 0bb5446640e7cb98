use Rattle.std.proofs.Common.{◌≡◌, ◌+◌, ◌-◌, ◌*◌, All, sym, ap, ◌∙◌, refl, subst, arith}
use Rattle.soc_base.proofs.Laws.{steps_none, steps_more}
use Rattle.alone_model.specs.App.{AppState}
use Rattle.alone_model.specs.Slots.{app_slot}
use Rattle.alone_model.specs.inner.Stretch.{HasItsPorts}
use Rattle.alone_model.specs.inner.Told.{app_of}
use Rattle.alone_model.proofs.Run.{told_at_end}
use Rattle.alone_model.proofs.Steps.{app_ports}
use Rattle.alone_model.proofs.application.Application.run_slots.Goals as goal

pub loop-slot-init : goal.loop-slot-init
loop-slot-init c =
    let start = c.args.start in
    let step = app_slot c.args.platform.now c.args.bundle.now (start * c.args.platform.now.slot_cycles) in
    record { slots = sym (steps_none step start (start - start) (app_of c.args.self.now) (omega arith)); ports = c.requires.ports }

pub returns-then-have_ended : goal.returns-then-have_ended
returns-then-have_ended c =
    let start = c.args.start in
    let ended = rw (c.as_slice.ensures.value) at (c.have_ended.ensures c.if-have_ended.true) in
    told_at_end c.args.platform.now c.args.bundle.now (start * c.args.platform.now.slot_cycles) start c.loop-slot.slot c.args.end (app_of c.args.self.now) (app_of c.loop-slot.self)
    (omega arith) (omega arith) c.loop-slot.invariant.slots ended

pub loop-slot-preserved : goal.loop-slot-preserved
loop-slot-preserved c =
    let platform = c.args.platform.now in
    let start = c.args.start in
    let slot = c.loop-slot.slot in
    let now = app_of c.loop-slot.self in
    let step = app_slot platform c.args.bundle.now (start * platform.slot_cycles) in
    let next : app_of c.step.new.self ≡ step slot now = rw (c.from.ensures) at c.in_ok-step.ensures in
    record {
      slots = next ∙ ap (step slot) c.loop-slot.invariant.slots ∙ sym (steps_more step start slot (slot + 1 - start) (app_of c.args.self.now) (omega arith) refl);
      ports = subst (λ (a : AppState). All HasItsPorts a.parts) (sym next) (app_ports platform c.args.bundle.now (start * platform.slot_cycles) slot now c.loop-slot.invariant.ports);
    }
