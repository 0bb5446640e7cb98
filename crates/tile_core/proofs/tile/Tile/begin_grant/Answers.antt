use Rattle.std.proofs.Common.{sym, ap, ◌∙◌}
use Rattle.std.specs.Option.{option_copied}
use Rattle.tile_core.proofs.tile.Tile.begin_grant.Goals as goal

pub install-requires : goal.install-requires
install-requires c =
    c.requires c.in-Some.place c.in-Some-load_part.part.now (sym c.load_place.ensures ∙ c.in-Some.is) (sym c.load_part.ensures ∙ ap option_copied c.in-Some-load_part.is)
