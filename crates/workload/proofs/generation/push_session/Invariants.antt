use Rattle.std.proofs.Common.{◌≡◌, ◌-◌, ◌*◌, ◌++◌, string_bytes}
use Rattle.workload.specs.Draws.{state_after}
use Rattle.workload.specs.inner.Loads.{documents_of, bundles_from, lines_from}
use Rattle.workload.proofs.generation.push_session.Given as goal

abbrev pub invariant-loop-load : goal.invariant-loop-load
invariant-loop-load l = record {
  draws : l.draws.state ≡ state_after l.fn.draws.state (7 * (l.load - 1));
  bundles : documents_of l.bundles ≡ documents_of l.fn.bundles ++ bundles_from l.fn.draws.state l.fn.session (l.load - 1);
  script : string_bytes l.script ≡ lines_from l.fn.draws.state l.fn.session (l.load - 1);
}
