use Rattle.std.proofs.Common.{◌≡◌, ℕ, List, take, vec_capacity}
use Rattle.std.specs.List.{concat}
use Rattle.report_text.specs.Report.{AreAppTexts}
use Rattle.report_text.specs.inner.Logs.{grants_in}
use Rattle.soc_io.specs.Printing.{PrintsMore}
use Rattle.report_text.proofs.applications.put_apps.Given as goal

abbrev pub invariant-loop-entry : goal.invariant-loop-entry
invariant-loop-entry g l =
    ((texts : List (List ℕ))
    × AreAppTexts l.setup (grants_in l.setup l.history (take l.entry-index l.history)) texts
    × PrintsMore g.S.Sink.written g.S.Sink.faults l.fn.printer l.printer (concat texts))
    × (l.printer.sink.ghost_name ≡ l.fn.printer.sink.ghost_name)
    × (vec_capacity l.rows ≡ vec_capacity l.fn.rows)
