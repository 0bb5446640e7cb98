use Rattle.std.proofs.Common.{◌≡◌}
use Rattle.soc_io.proofs.printer.tests.put_all.Given as goal

abbrev pub invariant-loop-piece : goal.invariant-loop-piece
invariant-loop-piece l = l.printer.sink.ghost_name ≡ l.fn.printer.sink.ghost_name
