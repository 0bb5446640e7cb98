use Rattle.std.proofs.Common.{◌≡◌, ℕ, List, Some, refl, sym, ap, ap₂, ◌∙◌}
use Rattle.ni_port.specs.SizedPort.{SizedPort}
use Rattle.part_model.specs.Running.{effect_with}
use Rattle.part_model.specs.Part.{part_bus, log_after}
use Rattle.tile_mmio.specs.Ports.{other_ports}
use Rattle.tile_mmio.specs.inner.Acting.{bus_in}
use Rattle.tile_mmio.proofs.Seen.{seen, with_own, effect_seen, left_is}
use Rattle.tile_mmio.proofs.run.PartOnTile.complete.Goals as goal

-- the part sees what it would see on a bus of its own
pub returns-clause-view : goal.returns-clause-view
unfolding seen with_own
returns-clause-view c =
    let b = bus_in c.args.self.now c.args.place c.args.cycle in
    let regs = c.args.self.now.regs.now in
    let acted = c.act-outcome.ensures in
    let tile = effect_with part_bus regs b c.args.here in
    let own = effect_seen b regs c.args.here c.requires.own in
    let left = c.left_after-self.ensures ∙ left_is b regs c.args.here c.act-outcome.result acted.outcome in
    let numbers = ap (λ f. f.5) acted.fixed ∙ sym own.numbers in
    let log = c.record_outcome.ensures ∙ ap (λ (pc : ℕ). log_after c.args.place c.args.cycle pc (Some c.act-outcome.result) c.act-outcome.new.self.log.now) (ap (λ r. r.pc) c.regs.view_is)
    ∙ ap₂ (log_after c.args.place c.args.cycle regs.pc) acted.outcome acted.log in
    rw (own.ended, acted.regs, left, acted.bytes, acted.ports, numbers, log) refl

-- and the tile's other ports stay
pub returns-clause-rest : goal.returns-clause-rest
returns-clause-rest c =
    let b = bus_in c.args.self.now c.args.place c.args.cycle in
    let acted = c.act-outcome.ensures in
    let same = ap (λ f. f.5) acted.fixed in
    let others : other_ports c.act-outcome.new.self.ports.now c.act-outcome.new.self.map.now ≡ other_ports c.args.self.now.ports.now c.args.self.now.map.now
    = ap₂ other_ports acted.ports same ∙ (effect_seen b c.args.self.now.regs.now c.args.here c.requires.own).others in
    ap₂ (λ f (o : List SizedPort). (f.0, f.1, f.2, f.3, f.4, f.5, o)) acted.fixed others
