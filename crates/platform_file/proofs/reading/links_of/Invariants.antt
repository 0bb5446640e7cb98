use Rattle.std.proofs.Common.{◌≡◌, map, take}
use Rattle.toml_keys.specs.Level.{level_members}
use Rattle.platform_file.specs.Reading.{link_of}
use Rattle.platform_file.proofs.reading.links_of.Given as goal

abbrev pub invariant-loop-table : goal.invariant-loop-table
invariant-loop-table l = l.links ≡ map link_of (map level_members (take l.table-index l.tables))
