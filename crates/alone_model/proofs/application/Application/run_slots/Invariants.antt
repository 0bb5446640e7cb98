use Rattle.std.proofs.Common.{◌≡◌, ◌-◌, ◌*◌, All}
use Rattle.soc_base.specs.Steps.{after_steps}
use Rattle.alone_model.specs.Slots.{app_slot}
use Rattle.alone_model.specs.inner.Stretch.{HasItsPorts}
use Rattle.alone_model.specs.inner.Told.{app_of}
use Rattle.alone_model.proofs.application.Application.run_slots.Given as goal

abbrev pub invariant-loop-slot : goal.invariant-loop-slot
invariant-loop-slot l = record {
  slots : app_of l.self ≡ after_steps (app_slot l.platform l.bundle (l.start * l.platform.slot_cycles)) l.start (l.slot - l.start) (app_of l.fn.self);
  ports : All HasItsPorts l.self.parts.items;
}
