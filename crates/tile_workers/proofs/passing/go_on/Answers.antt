use Rattle.tile_workers.proofs.GoingOn.{gone_none, gone_more}
use Rattle.tile_workers.proofs.Standing.{underway, after_pass}
use Rattle.tile_workers.proofs.passing.go_on.Goals as goal

pub loop-init : goal.loop-init
loop-init g c = record { gone = gone_none c.args.until c.args.stations.now; stands = c.requires.stands }

pub pass_all-requires : goal.pass_all-requires
pass_all-requires g c =
    underway (g.F.Feed.setup c.args.feed.now) c.requires.sound (g.F.Feed.seen c.args.feed.now) c.args.world.now
    c.args.until c.args.schedule.now c.loop.stations c.requires.world c.loop.invariant.stands c.requires.whole

pub returns-then-not-pass_all-clause-gone : goal.returns-then-not-pass_all-clause-gone
returns-then-not-pass_all-clause-gone g c =
    gone_more c.args.world.now c.args.schedule.now c.args.until c.pass_all.result c.args.stations.now c.loop.stations
    c.pass_all.new.stations c.loop.invariant.gone c.pass_all.ensures

pub returns-then-not-pass_all-clause-stands : goal.returns-then-not-pass_all-clause-stands
returns-then-not-pass_all-clause-stands g c =
    after_pass (g.F.Feed.setup c.args.feed.now) (g.F.Feed.seen c.args.feed.now) c.args.world.now c.args.until
    c.args.schedule.now c.loop.stations c.pass_all.new.stations c.loop.invariant.stands c.pass_all.ensures.each

pub loop-preserved : goal.loop-preserved
loop-preserved g c = record {
  gone = gone_more c.args.world.now c.args.schedule.now c.args.until c.pass_all.result c.args.stations.now
      c.loop.stations c.pass_all.new.stations c.loop.invariant.gone c.pass_all.ensures;
  stands = after_pass (g.F.Feed.setup c.args.feed.now) (g.F.Feed.seen c.args.feed.now) c.args.world.now c.args.until
      c.args.schedule.now c.loop.stations c.pass_all.new.stations c.loop.invariant.stands c.pass_all.ensures.each;
}
