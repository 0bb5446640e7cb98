use Rattle.std.proofs.Common.{ℕ, ◌+◌, sym, ap₂, ◌∙◌, rules, arith}
use Rattle.report_text.specs.inner.Counts.{app_count}
use Rattle.report_text.specs.inner.Logs.{HoldsAlone}
use Rattle.report_text.proofs.AppTexts.{granted_at}
use Rattle.report_text.proofs.GrantCounts.{count_none, count_more, count_all}
use Rattle.report_text.proofs.counts.apps_count.Goals as goal

pub loop-entry-init : goal.loop-entry-init
loop-entry-init c = (
  sym (count_none (app_count c.args.counted c.args.setup.now c.args.stations.now) c.args.setup.now
      c.args.history.now),
  omega arith,
)

pub reply_count-sum-requires : goal.reply_count-sum-requires
reply_count-sum-requires c =
    granted_at (HoldsAlone c.args.setup.now c.args.stations.now) c.args.setup.now c.args.history.now
    c.loop-entry.entry-index _ (omega arith) c.requires

pub loop-entry-preserved : goal.loop-entry-preserved
loop-entry-preserved c = (
  ap₂ (λ (m n : ℕ). m + n) c.loop-entry.invariant.0 c.reply_count-sum.ensures.count
      ∙ sym (count_more (app_count c.args.counted c.args.setup.now c.args.stations.now) c.args.setup.now
      c.args.history.now c.loop-entry.entry-index _ (omega arith)),
  omega (arith, c.loop-entry.invariant.1, c.reply_count-sum.ensures.below),
)

pub returns : goal.returns
returns c =
    c.loop-entry.invariant.0
    ∙ count_all (app_count c.args.counted c.args.setup.now c.args.stations.now) c.args.setup.now c.args.history.now
    c.loop-entry.entry-index (omega arith)
