use Rattle.std.proofs.Common.{◌≡◌, drop}
use Rattle.std.specs.List.{list_all}
use Rattle.toml.specs.View.{items_view}
use Rattle.toml_keys.specs.Keys.{has_types}
use Rattle.toml_keys.specs.Values.{tables_of}
use Rattle.toml_keys.proofs.level.Level.tables_have_types.Given as goal

abbrev pub invariant-loop-value : goal.invariant-loop-value
invariant-loop-value l =
    list_all (has_types l.keys) (tables_of (items_view (drop l.value-index l.value-items)))
    ≡ list_all (has_types l.keys) (tables_of (items_view l.value-items))
