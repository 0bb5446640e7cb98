use Rattle.std.proofs.Common.{◌≡◌}
use Rattle.toml.specs.View.{members_view}
use Rattle.toml_keys.specs.Keys.{has_only}
use Rattle.toml_keys.proofs.level.table_has_only.Given as goal

abbrev pub invariant-loop-name : goal.invariant-loop-name
invariant-loop-name l =
    (goal.iterator-loop-name).can_next l.name-iterator × (goal.iterator-loop-name).is_finite l.name-iterator
    × (has_only l.keys (members_view l.name-iterator) ≡ has_only l.keys (members_view l.table.entries))
