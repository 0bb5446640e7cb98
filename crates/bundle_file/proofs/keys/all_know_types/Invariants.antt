use Rattle.std.proofs.Common.{◌≡◌, map, drop}
use Rattle.std.specs.List.{list_all}
use Rattle.toml_keys.specs.Keys.{has_types}
use Rattle.toml_keys.specs.Level.{level_members}
use Rattle.bundle_file.specs.Reading.{pair_passes}
use Rattle.bundle_file.proofs.keys.all_know_types.Given as goal

abbrev pub invariant-loop-pair : goal.invariant-loop-pair
invariant-loop-pair l = list_all (pair_passes has_types) (map level_members (drop l.pair-index l.pairs)) ≡ list_all (pair_passes has_types) (map level_members l.pairs)
