use Rattle.std.proofs.Common.{◌≡◌, ◌*◌, ◌^◌, ◌≤◌, take, sum_by}
use Rattle.report_text.specs.inner.Counts.{part_count}
use Rattle.report_text.proofs.counts.parts_count.Given as goal

abbrev pub invariant-loop-part : goal.invariant-loop-part
invariant-loop-part l =
    (l.sum ≡ sum_by (part_count l.counted l.stations l.label) (take l.part-index l.parts))
    × (l.sum ≤ l.part-index * 2 ^ 64)
