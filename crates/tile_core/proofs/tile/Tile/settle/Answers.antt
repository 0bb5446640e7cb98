use Rattle.std.proofs.Common.{List, sym, subst, ap, ◌∙◌}
use Rattle.bundle_model.specs.declared.world.Grant.{Grant}
use Rattle.bundle_model.specs.Grants.{IsApart}
use Rattle.grant_tables.specs.Tables.{AreTabled}
use Rattle.tile_core.specs.Tile.{TileState}
use Rattle.tile_core.specs.Slot.{with_starts}
use Rattle.tile_core.proofs.Ready.{quiet_in, settled_tabled}
use Rattle.tile_core.proofs.tile.Tile.settle.Goals as goal

pub returns-then-is_quiet : goal.returns-then-is_quiet
returns-then-is_quiet c =
    quiet_in c.args.world.now c.args.schedule.now.grants.items c.as_slice-grants.result.now c.args.self.now c.self.inside.slot c.as_slice-grants.ensures.value (ap (λ (t : TileState). t.at) c.self.view_is) (sym c.is_quiet.ensures ∙ c.if-is_quiet.true)

pub settle_tables-requires-clause-apart : goal.settle_tables-requires-clause-apart
settle_tables-requires-clause-apart c =
    let P : List Grant → Type 0 = λ grants. IsApart c.args.world.now grants in
    subst P (sym c.as_slice-grants.ensures.value) c.requires.apart

pub settle_tables-requires-clause-tabled : goal.settle_tables-requires-clause-tabled
settle_tables-requires-clause-tabled c =
    let world = c.args.world.now in
    let grants = c.args.schedule.now.grants.items in
    let P : List Grant → Type 0 = λ gs. AreTabled world gs c.self-2.inside.slot c.self-2.inside.number c.self-2.inside.tables in
    let Q : TileState → Type 0 = λ t. AreTabled world grants t.at t.number t.tables in
    let tabled = settled_tabled world c.args.schedule.now c.args.self.now c.begin_grants.new.self c.requires (c.begin_grants.ensures ∙ ap (with_starts world grants) c.end_grants.ensures) in
    subst P (sym c.as_slice-grants.ensures.value) (subst Q (sym c.self-2.view_is) tabled)
