use Rattle.std.proofs.Common.{◌≡◌, ◌<◌, ◌&&◌, ℕ, false, get_or}
use Rattle.std.specs.Prelude.{nat_lt, nat_le}
use Rattle.std.specs.List.{list_all}
use Rattle.tile_core.specs.Tile.{TileState}
use Rattle.event_core.proofs.engine.first_least.Given as goal

abbrev pub invariant-loop-number : goal.invariant-loop-number
invariant-loop-number l = (k : ℕ) (d : TileState) → k < l.number → (nat_lt (get_or l.tiles k d).at l.horizon && list_all (λ other. nat_le (get_or l.tiles k d).at other.at) l.tiles) ≡ false
