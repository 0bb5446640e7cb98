use Rattle.std.proofs.Common.{◌≡◌, ◌%◌, ◌^◌, take}
use Rattle.report_text.specs.State.{total}
use Rattle.report_text.proofs.sum.carried_sum.Given as goal

abbrev pub invariant-loop-out : goal.invariant-loop-out
invariant-loop-out l = l.sum ≡ total (take l.out l.tile.carried) % 2 ^ 32
