use Rattle.std.proofs.Common.{◌≡◌, ◌++◌, drop, map}
use Rattle.toml.specs.View.{items_view}
use Rattle.toml_keys.specs.Level.{level_members}
use Rattle.toml_keys.specs.Values.{tables_of}
use Rattle.toml_keys.proofs.level.Level.tables.Given as goal

abbrev pub invariant-loop-value : goal.invariant-loop-value
invariant-loop-value l = tables_of (items_view l.value-items) ≡ map level_members l.tables.items ++ tables_of (items_view (drop l.value-index l.value-items))
