use Rattle.std.proofs.Common.{sym, ◌∙◌}
use Rattle.tile_core.proofs.tile.Tile.end_if.Goals as goal

pub end_grant-requires : goal.end_grant-requires
end_grant-requires c = c.requires (sym c.ends_in.ensures ∙ c.if-ends_in.true)
