use Rattle.std.proofs.Common.{◌≡◌}
use Rattle.report_text.proofs.state_tests.filled_port.Given as goal

abbrev pub invariant-loop-word : goal.invariant-loop-word
invariant-loop-word l = l.port.queue ≡ 63
