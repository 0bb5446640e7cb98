use Rattle.std.proofs.Common.{◌≤◌}
use Rattle.ni_port.proofs.tests.moves_leave_the_states_worked_out_by_hand.Given as goal

abbrev pub invariant-loop-step : goal.invariant-loop-step
invariant-loop-step g l = 2 ≤ l.port.queue
