use Rattle.std.proofs.Common.{◌≡◌, ◌≤◌, replicate, vec_len, vec_capacity}
use Rattle.tile_core.specs.Tile.{free_sized}
use Rattle.tile_core.proofs.tile.free_ports.Given as goal

abbrev pub invariant-loop-number : goal.invariant-loop-number
invariant-loop-number l =
    (l.ports.items ≡ replicate l._number (free_sized l.queue)) × (vec_len l.ports ≡ l._number) × (l.count ≤ vec_capacity l.ports)
