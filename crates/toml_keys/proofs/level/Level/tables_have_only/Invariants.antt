use Rattle.std.proofs.Common.{◌≡◌, drop}
use Rattle.std.specs.List.{list_all}
use Rattle.toml.specs.View.{items_view}
use Rattle.toml_keys.specs.Keys.{has_only}
use Rattle.toml_keys.specs.Values.{tables_of}
use Rattle.toml_keys.proofs.level.Level.tables_have_only.Given as goal

abbrev pub invariant-loop-value : goal.invariant-loop-value
invariant-loop-value l =
    list_all (has_only l.keys) (tables_of (items_view (drop l.value-index l.value-items)))
    ≡ list_all (has_only l.keys) (tables_of (items_view l.value-items))
