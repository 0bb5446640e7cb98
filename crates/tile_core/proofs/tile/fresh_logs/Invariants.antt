use Rattle.std.proofs.Common.{◌≡◌, ◌≤◌, length, map, take, vec_len, vec_capacity}
use Rattle.tile_core.specs.Tile.{fresh_log}
use Rattle.tile_core.proofs.tile.fresh_logs.Given as goal

abbrev pub invariant-loop-load : goal.invariant-loop-load
invariant-loop-load l =
    (l.logs.items ≡ map (fresh_log l.world l.tile) (take l.load-index l.fn.loads)) × (vec_len l.logs ≤ l.load-index) × (length l.fn.loads ≤ vec_capacity l.logs)
