use Rattle.std.proofs.Common.{sym, subst}
use Rattle.tile_core.specs.Tile.{TileState}
use Rattle.tile_core.specs.Fit.{IsMadeFor, IsFit}
use Rattle.tile_core.proofs.SlotMade.{slot_made}
use Rattle.tile_core.proofs.Slots.{slot_fits}
use Rattle.tile_core.proofs.tile.Tile.slot_into.Goals as goal

pub returns-clause-fits : goal.returns-clause-fits
returns-clause-fits c =
    let u = c.requires.ready.underway in
    let P : TileState → Type 0 = λ t. IsFit c.args.world.now c.args.schedule.now.grants.items t in
    subst P (sym c.advance.ensures.slot) (slot_fits c.args.world.now u.loads c.args.schedule.now.grants.items c.args.inputs.now c.args.self.now u.sound u.apart u.of_loads u.made u.fits)

pub returns-clause-made : goal.returns-clause-made
returns-clause-made c = λ loads made.
    let P : TileState → Type 0 = λ t. IsMadeFor c.args.world.now loads t in
    subst P (sym c.advance.ensures.slot) (slot_made c.args.world.now loads c.args.schedule.now.grants.items c.args.inputs.now c.args.self.now c.requires.ready.underway.sound.catalog made)
