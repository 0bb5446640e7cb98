use Rattle.std.proofs.Common.{◌≡◌, length}
use Rattle.tile_mmio.proofs.tests.cycles.runs_a_program.Given as goal

abbrev pub invariant-loop-cycle : goal.invariant-loop-cycle
invariant-loop-cycle g l = length l.memory ≡ 64
