use Rattle.std.proofs.Common.{◌≡◌, ◌∙◌, ◌&&◌, true, List, Option, map, position, sym, ap, ap₂, subst, ℕ}
use Rattle.std.specs.Prelude.{nat_lt, nat_le, IfSome}
use Rattle.std.specs.List.{list_all}
use Rattle.tile_core.specs.Tile.{TileState}
use Rattle.core_model.specs.Core.{least_ready}
use Rattle.event_core.specs.declared.event.Event.TheVariants.{Slot}
use Rattle.event_core.specs.Core.{Engaged, hardware_of, is_enabled}
use Rattle.event_core.specs.inner.Wires.{line_of}
use Rattle.event_core.proofs.Hindered.{least_enabled}
use Rattle.event_core.proofs.engine.Core.least_ready.Goals as goal

pub returns-clause-least : goal.returns-clause-least
returns-clause-least c =
    let inside = c.self.inside in
    c.first_least.ensures
    ∙ ap₂ (λ (tiles : List TileState) (horizon : ℕ). position (λ (t : TileState). nat_lt t.at horizon && list_all (λ other. nat_le t.at other.at) tiles) tiles) c.as_slice.ensures.value c.self.invariant.horizon_known
    ∙ ap (λ (e : Engaged). least_ready (hardware_of e.setup) e.setup e.core) c.self.view_is

pub returns-clause-enabled : goal.returns-clause-enabled
returns-clause-enabled c =
    let inside = c.self.inside in
    let here : Engaged = record { setup = inside.manager.setup; core = record { history = inside.manager.history; tiles = inside.places.items; lines = map line_of inside.wires.items } } in
    let enabled = subst (λ (e : Engaged). IfSome (least_ready (hardware_of e.setup) e.setup e.core) (λ tile. is_enabled e (Slot tile) ≡ true)) c.self.view_is (least_enabled here c.self.invariant.order) in
    subst (λ (o : Option ℕ). IfSome o (λ tile. is_enabled c.args.self.now (Slot tile) ≡ true)) (sym (returns-clause-least c)) enabled
