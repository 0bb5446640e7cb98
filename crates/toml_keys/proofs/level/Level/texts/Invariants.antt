use Rattle.std.proofs.Common.{◌≡◌, ◌++◌, drop}
use Rattle.toml.specs.View.{items_view}
use Rattle.toml_keys.specs.Values.{texts_of}
use Rattle.toml_keys.proofs.level.Level.texts.Given as goal

abbrev pub invariant-loop-value : goal.invariant-loop-value
invariant-loop-value l = texts_of (items_view l.value-items) ≡ l.texts ++ texts_of (items_view (drop l.value-index l.value-items))
