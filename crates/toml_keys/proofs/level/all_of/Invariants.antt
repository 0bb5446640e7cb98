use Rattle.std.proofs.Common.{◌≡◌, drop}
use Rattle.toml.specs.View.{items_view}
use Rattle.toml_keys.specs.Keys.{all_of}
use Rattle.toml_keys.proofs.level.all_of.Given as goal

abbrev pub invariant-loop-value : goal.invariant-loop-value
invariant-loop-value l = all_of l.kind (items_view (drop l.value-index l.values)) ≡ all_of l.kind (items_view l.values)
