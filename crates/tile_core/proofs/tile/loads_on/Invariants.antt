use Rattle.std.proofs.Common.{◌≡◌, ◌≤◌, length, take, vec_len, vec_capacity}
use Rattle.tile_core.specs.Tile.{loads_on}
use Rattle.tile_core.proofs.tile.loads_on.Given as goal

abbrev pub invariant-loop-load : goal.invariant-loop-load
invariant-loop-load l =
    (l.names.items ≡ loads_on l.world l.tile (take l.load-index l.fn.loads)) × (vec_len l.names ≤ l.load-index) × (length l.fn.loads ≤ vec_capacity l.names)
