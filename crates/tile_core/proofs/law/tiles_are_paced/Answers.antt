use Rattle.tile_core.proofs.Paced.{tiles_are_paced}
use Rattle.tile_core.proofs.law.tiles_are_paced.Goals as goal

pub returns : goal.returns
returns c = tiles_are_paced
