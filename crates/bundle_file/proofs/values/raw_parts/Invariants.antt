use Rattle.std.proofs.Common.{◌≡◌, map, take}
use Rattle.toml_keys.specs.Level.{level_members}
use Rattle.bundle_file.specs.Reading.{raw_part}
use Rattle.bundle_file.proofs.values.raw_parts.Given as goal

abbrev pub invariant-loop-table : goal.invariant-loop-table
invariant-loop-table l = l.parts ≡ map raw_part (map level_members (take l.table-index l.tables))
