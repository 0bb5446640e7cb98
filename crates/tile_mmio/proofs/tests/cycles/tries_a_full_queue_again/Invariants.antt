use Rattle.std.proofs.Common.{◌≡◌, length}
use Rattle.tile_mmio.proofs.tests.cycles.tries_a_full_queue_again.Given as goal

abbrev pub invariant-loop-cycle : goal.invariant-loop-cycle
invariant-loop-cycle g l = length l.memory ≡ 64
