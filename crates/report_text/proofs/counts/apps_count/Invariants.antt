use Rattle.std.proofs.Common.{◌≡◌, ◌*◌, ◌^◌, ◌≤◌, take, sum_by}
use Rattle.report_text.specs.inner.Counts.{app_count}
use Rattle.report_text.specs.inner.Logs.{grants_in}
use Rattle.report_text.proofs.counts.apps_count.Given as goal

abbrev pub invariant-loop-entry : goal.invariant-loop-entry
invariant-loop-entry l =
    (l.sum ≡ sum_by (app_count l.counted l.setup l.stations)
    (grants_in l.setup l.history (take l.entry-index l.history)))
    × (l.sum ≤ l.entry-index * (32 * 2 ^ 64))
