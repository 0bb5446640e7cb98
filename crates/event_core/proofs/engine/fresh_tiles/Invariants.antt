use Rattle.std.proofs.Common.{◌≡◌, ◌≤◌, map, vec_len, vec_capacity}
use Rattle.std.specs.List.{range_with_len}
use Rattle.tile_core.specs.Tile.{fresh_tile}
use Rattle.event_core.proofs.engine.fresh_tiles.Given as goal

abbrev pub invariant-loop-number : goal.invariant-loop-number
invariant-loop-number l = record {
  made : l.tiles.items ≡ map (fresh_tile l.world l.loads) (range_with_len 0 l.number);
  count : vec_len l.tiles ≡ l.number;
  room : l.world.platform.tiles ≤ vec_capacity l.tiles;
}
