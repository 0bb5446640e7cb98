use Rattle.std.proofs.Common.{◌≡◌, map, take}
use Rattle.toml_keys.specs.Level.{level_members}
use Rattle.bundle_file.specs.Reading.{raw_pair}
use Rattle.bundle_file.proofs.values.raw_pairs.Given as goal

abbrev pub invariant-loop-table : goal.invariant-loop-table
invariant-loop-table l = l.pairs ≡ map raw_pair (map level_members (take l.table-index l.tables))
