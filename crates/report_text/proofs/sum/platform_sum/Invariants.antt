use Rattle.std.proofs.Common.{◌≡◌, ◌%◌, ◌^◌, take, sum_by}
use Rattle.report_text.specs.inner.Shares.{tile_share}
use Rattle.report_text.proofs.sum.platform_sum.Given as goal

abbrev pub invariant-loop-station : goal.invariant-loop-station
invariant-loop-station l =
    l.sum ≡ sum_by (λ station. tile_share station.tile) (take l.station-index l.stations) % 2 ^ 32
