use Rattle.tile_workers.specs.inner.Passing.{HaveGoneOn, Stands}
use Rattle.tile_workers.proofs.passing.go_on.Given as goal

abbrev pub invariant-loop : goal.invariant-loop
invariant-loop g l = record {
  gone : HaveGoneOn l.until l.fn.stations l.stations;
  stands : Stands (g.F.Feed.setup l.feed) (g.F.Feed.seen l.feed) l.world l.until l.schedule l.stations;
}
