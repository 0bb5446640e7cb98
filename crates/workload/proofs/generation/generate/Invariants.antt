use Rattle.std.proofs.Common.{◌≡◌, ◌-◌, ◌*◌}
use Rattle.workload.specs.Draws.{state_after}
use Rattle.workload.specs.inner.Loads.{documents_of, bundles_until, scripts_until}
use Rattle.workload.proofs.generation.generate.Given as goal

abbrev pub invariant-loop-session : goal.invariant-loop-session
invariant-loop-session l = record {
  draws : l.draws.state ≡ state_after l.fn.number (42 * (l.session - 1));
  bundles : documents_of l.bundles ≡ bundles_until l.fn.number (l.session - 1);
  scripts : l.scripts ≡ scripts_until l.fn.number (l.session - 1);
}
