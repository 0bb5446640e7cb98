-- What a level of a document shows.
use Rattle.std.specs.Prelude.{option_map, unwrap_or}
use Rattle.toml.specs.Data.{Members, no_members}
use Rattle.toml.specs.View.{table_view}
use Rattle.toml_keys.specs.declared.level.Level.{Level}

-- the members of a level's table, or none for the empty table
abbrev pub level_members : Level → Members
level_members level = unwrap_or (option_map (λ t. table_view t.now) level.table) no_members
