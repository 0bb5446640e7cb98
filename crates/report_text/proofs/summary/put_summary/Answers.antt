use Rattle.std.proofs.Common.{◌++◌, append_assoc, refl, sym, ap, ◌∙◌}
use Rattle.report_text.specs.Alone.{end_line}
use Rattle.report_text.specs.Summary.{number_line, commands_line, replies_line, rows_line, parts_line, summary_text}
use Rattle.report_text.proofs.Prints.{prints_then, prints_same}
use Rattle.report_text.proofs.Totals.{have_totals}
use Rattle.vep_manager.specs.History.{grants_of}
use Rattle.report_text.proofs.summary.put_summary.Goals as goal

pub returns-clause-printed : goal.returns-clause-printed
unfolding summary_text
returns-clause-printed g c =
    let setup = c.args.setup.now in
    let history = c.args.end.now.history in
    let t = have_totals setup c.args.end.now.stations (grants_of setup history) c.requires in
    let replies = number_line c.args.number ++ commands_line history ++ replies_line history in
    let first = rw c.as_slice-history.ensures at c.put_replies.ensures.printed in
    let next = rw (c.as_slice-history.ensures, c.as_slice.ensures) at c.put_totals.ensures.printed in
    let both = prints_then _ _ _ _ _ _ _ _ _ _ _ first next in
    let all = prints_then _ _ _ _ _ _ _ _ _ _ _ both c.put_end.ensures.printed in (
      summary_text c.args.number history t.traces,
      record { traces = t.traces; are_traces = t.are_traces; is_text = refl },
      prints_same _ _ _ _ _ _ _ _
          (ap (λ s. s ++ end_line) (ap (λ s. replies ++ s) (sym t.lines)
          ∙ sym (append_assoc replies (rows_line t.traces) (parts_line t.traces)))) all,
    )
