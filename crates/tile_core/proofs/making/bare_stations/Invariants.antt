use Rattle.std.proofs.Common.{◌≡◌, ◌≤◌, [], map, vec_len, vec_capacity}
use Rattle.std.specs.List.{range_with_len}
use Rattle.tile_core.specs.Tile.{fresh_tile}
use Rattle.tile_core.specs.inner.Joined.{AreJoined}
use Rattle.tile_core.proofs.making.bare_stations.Given as goal

abbrev pub invariant-loop-number : goal.invariant-loop-number
invariant-loop-number l =
    AreJoined (map (fresh_tile l.world l.loads) (range_with_len 0 l.number)) [] l.stations.items
    × (vec_len l.stations ≡ l.number) × (l.world.platform.tiles ≤ vec_capacity l.stations)
