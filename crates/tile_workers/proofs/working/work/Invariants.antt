use Rattle.std.proofs.Common.{◌≡◌, ◌+◌, ◌*◌, ◌-◌, vec_capacity}
use Rattle.tile_workers.specs.inner.Passing.{slots_left}
use Rattle.tile_workers.proofs.Turning.{IsWorking}
use Rattle.tile_workers.proofs.working.work.Given as goal

abbrev pub invariant-loop-idle : goal.invariant-loop-idle
invariant-loop-idle g l = record {
  same : g.F.Feed.setup l.feed ≡ g.F.Feed.setup l.fn.feed;
  kept : g.F.Feed.kept l.feed ≡ g.F.Feed.kept l.fn.feed;
  room : vec_capacity l.schedule.grants ≡ vec_capacity l.fn.schedule.grants;
  working : IsWorking l.world l.until l.idle (g.F.Feed.setup l.feed) (g.F.Feed.seen l.fn.feed) (g.F.Feed.seen l.feed)
      l.schedule l.fn.group.stations.items l.group.stations.items (g.F.Feed.turns l.fn.feed) (g.F.Feed.turns l.feed);
}

abbrev pub decreases-loop-idle : goal.decreases-loop-idle
decreases-loop-idle g l = slots_left l.until l.group.stations.items * 1048577 + (1048576 - l.idle)
