use Rattle.std.proofs.Common.{sym, ap, ◌∙◌}
use Rattle.std.specs.Option.{option_copied}
use Rattle.tile_core.proofs.Ready.{held_own}
use Rattle.tile_core.proofs.tile.Tile.run_held.Goals as goal

pub run_part-requires-clause-own : goal.run_part-requires-clause-own
run_part-requires-clause-own c =
    held_own c.args.world.now c.args.self.now c.in-Some-Some.place c.in-Some-load_part.part.now c.requires.tile (sym c.load_part.ensures ∙ ap option_copied c.in-Some-load_part.is)
