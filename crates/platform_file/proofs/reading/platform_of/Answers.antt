use Rattle.std.proofs.Common.{map, ap, ◌∙◌}
use Rattle.toml_keys.specs.Level.{level_members}
use Rattle.platform_file.specs.Reading.{link_of}
use Rattle.platform_file.proofs.reading.platform_of.Goals as goal

pub numbers_of-requires-clause-links : goal.numbers_of-requires-clause-links
numbers_of-requires-clause-links c =
    c.in_ok-links.ensures ∙ ap (λ tables. map link_of (map level_members tables)) c.deref.ensures.value ∙ ap (map link_of) c.in_ok-tables.ensures
