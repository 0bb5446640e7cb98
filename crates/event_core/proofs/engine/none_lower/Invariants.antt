use Rattle.std.proofs.Common.{◌≡◌, drop}
use Rattle.std.specs.Prelude.{nat_le}
use Rattle.std.specs.List.{list_all}
use Rattle.event_core.proofs.engine.none_lower.Given as goal

abbrev pub invariant-loop-tile : goal.invariant-loop-tile
invariant-loop-tile l = list_all (λ other. nat_le l.slot other.at) (drop l.tile-index l.tiles) ≡ list_all (λ other. nat_le l.slot other.at) l.tiles
