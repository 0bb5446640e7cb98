use Rattle.std.proofs.Common.{sym, ◌∙◌}
use Rattle.tile_core.proofs.tile.Tile.begin_if.Goals as goal

pub begin_grant-requires : goal.begin_grant-requires
begin_grant-requires c = c.requires (sym c.begins_in.ensures ∙ c.if-begins_in.true)
