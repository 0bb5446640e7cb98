use Rattle.std.proofs.Common.{◌≡◌, length}
use Rattle.tile_mmio.proofs.tests.answers_accesses.Given as goal

abbrev pub invariant-loop-access : goal.invariant-loop-access
invariant-loop-access g l = length l.memory ≡ 64
