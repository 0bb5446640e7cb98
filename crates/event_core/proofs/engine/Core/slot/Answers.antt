use Rattle.std.proofs.Common.{◌∙◌, slice_get, sym, ap, map, subst, IfSome, vec_capacity}
use Rattle.soc_base.specs.Port.{WordAndCredits}
use Rattle.tile_core.specs.Tile.{TileState}
use Rattle.tile_core.specs.Fit.{IsReady}
use Rattle.vep_manager.specs.declared.setup.Setup.{Setup}
use Rattle.core_model.specs.Core.{CoreState}
use Rattle.event_core.specs.declared.event.Event.TheVariants.{Slot}
use Rattle.event_core.specs.Core.{Engaged, after_event}
use Rattle.event_core.specs.inner.Wires.{line_of}
use Rattle.event_core.specs.inner.Turn.{IsPassedOn}
use Rattle.event_core.proofs.Hindered.{Goes, goes, hindered_stays}
use Rattle.event_core.proofs.Engaged.{ready_there, passed_on}
use Rattle.event_core.proofs.engine.Core.slot.Goals as goal

pub returns-in-Some-clause-done : goal.returns-in-Some-clause-done
returns-in-Some-clause-done c = sym (hindered_stays c.args.self.now c.args.tile c.in-Some.why (sym c.why_not.ensures ∙ c.in-Some.is))

pub go-requires-clause-ready : goal.go-requires-clause-ready
go-requires-clause-ready c =
    let inside = c.self.inside in
    let core : CoreState TileState WordAndCredits = record { history = inside.manager.history; tiles = inside.places.items; lines = map line_of inside.wires.items } in
    let it = subst (λ (e : Engaged). Goes e c.args.tile) (sym c.self.view_is) (goes c.args.self.now c.args.tile c.requires (sym c.why_not.ensures ∙ c.in_default.is)) in
    subst (λ (s : Setup). IfSome (slice_get inside.places.items c.args.tile) (IsReady s.world inside.schedule)) (sym c.setup.ensures)
    (ready_there inside.manager.setup core inside.schedule (vec_capacity inside.schedule.grants) c.args.tile c.self.invariant it)

pub invariant_of-self-2 : goal.invariant_of-self-2
invariant_of-self-2 c =
    let inside = c.self.inside in
    let core : CoreState TileState WordAndCredits = record { history = inside.manager.history; tiles = inside.places.items; lines = map line_of inside.wires.items } in
    let it = subst (λ (e : Engaged). Goes e c.args.tile) (sym c.self.view_is) (goes c.args.self.now c.args.tile c.requires (sym c.why_not.ensures ∙ c.in_default.is)) in
    let done = subst (λ (s : Setup). IfSome (slice_get inside.places.items c.args.tile) (IsPassedOn s.world inside.schedule.grants.items c.args.tile inside.places.items c.go.new.tiles.items (map line_of inside.wires.items) (map line_of c.go.new.wires.items))) c.setup.ensures c.in_ok-go.ensures.done in
    (passed_on inside.manager.setup core inside.schedule.grants.items inside.schedule.horizon (vec_capacity inside.schedule.grants) c.args.tile c.go.new.tiles.items (map line_of c.go.new.wires.items) c.self.invariant it done).1

pub returns-clause-done : goal.returns-clause-done
returns-clause-done c =
    let inside = c.self.inside in
    let core : CoreState TileState WordAndCredits = record { history = inside.manager.history; tiles = inside.places.items; lines = map line_of inside.wires.items } in
    let it = subst (λ (e : Engaged). Goes e c.args.tile) (sym c.self.view_is) (goes c.args.self.now c.args.tile c.requires (sym c.why_not.ensures ∙ c.in_default.is)) in
    let done = subst (λ (s : Setup). IfSome (slice_get inside.places.items c.args.tile) (IsPassedOn s.world inside.schedule.grants.items c.args.tile inside.places.items c.go.new.tiles.items (map line_of inside.wires.items) (map line_of c.go.new.wires.items))) c.setup.ensures c.in_ok-go.ensures.done in
    ap (λ (after : CoreState TileState WordAndCredits). let e : Engaged = record { setup = inside.manager.setup; core = after } in e)
    (passed_on inside.manager.setup core inside.schedule.grants.items inside.schedule.horizon (vec_capacity inside.schedule.grants) c.args.tile c.go.new.tiles.items (map line_of c.go.new.wires.items) c.self.invariant it done).0
    ∙ ap (λ (e : Engaged). after_event e (Slot c.args.tile)) c.self.view_is
