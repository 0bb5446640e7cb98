use Rattle.std.proofs.Common.{◌+◌, ◌*◌, All, sym, subst, arith}
use Rattle.alone_model.specs.App.{AppState}
use Rattle.alone_model.specs.inner.Stretch.{HasItsPorts}
use Rattle.alone_model.specs.inner.Told.{app_of}
use Rattle.alone_model.proofs.Steps.{sent_ports, steps_ports, slot_done}
use Rattle.alone_model.proofs.application.Application.step.Goals as goal

pub receive-requires : goal.receive-requires
receive-requires c =
    let platform = c.args.platform.now in
    let bundle = c.args.bundle.now in
    let parts = c.send.new.self.parts.items in
    let count : All HasItsPorts parts =
    subst (λ (a : AppState). All HasItsPorts a.parts) (sym c.in_ok-send.ensures) (sent_ports platform bundle c.args.slot (app_of c.args.self.now) c.requires.ports) in
    subst (λ (a : AppState). All HasItsPorts a.parts) (sym c.run_parts.ensures) (steps_ports platform bundle c.args.start _ _ parts count)

pub returns : goal.returns
returns c =
    let platform = c.args.platform.now in
    let ran = rw (c.from-slot_cycles.ensures) at c.run_parts.ensures in
    slot_done platform c.args.bundle.now c.args.start c.args.slot (c.args.slot * platform.slot_cycles + platform.slot_cycles) (app_of c.args.self.now) (app_of c.send.new.self) (app_of c.run_parts.new.self) (app_of c.receive.new.self)
    c.in_ok-send.ensures ran (omega arith) c.in_ok-receive.ensures
