use Rattle.std.proofs.Common.{Bool, sym, subst}
use Rattle.tile_workers.specs.inner.Passing.{IsTurnOf}
use Rattle.tile_workers.proofs.GoingOn.{turn_of_one, turn_of_more}
use Rattle.tile_workers.proofs.Standing.{turn_begins, first_pass}
use Rattle.tile_workers.proofs.passing.take_turn.Goals as goal

pub pass_all-moved-requires : goal.pass_all-moved-requires
pass_all-moved-requires g c =
    let told = c.refresh.ensures in
    (turn_begins (g.F.Feed.setup c.args.feed.now) (g.F.Feed.setup c.refresh.new.self)
    (g.F.Feed.seen c.args.feed.now) (g.F.Feed.seen c.refresh.new.self) c.args.world.now c.args.until
    c.args.schedule.now c.refresh.new.into c.args.stations.now c.requires.sound c.requires.world c.requires.stands
    (record {
      same = told.setup;
      begins = told.begins;
      legal = told.legal;
      whole = record { grants = told.grants; horizon = told.horizon };
    })).1

pub go_on-requires-clause-stands : goal.go_on-requires-clause-stands
go_on-requires-clause-stands g c =
    let told = c.refresh.ensures in
    first_pass (g.F.Feed.setup c.args.feed.now) (g.F.Feed.setup c.refresh.new.self)
    (g.F.Feed.seen c.args.feed.now) (g.F.Feed.seen c.refresh.new.self) c.args.world.now c.args.until
    c.args.schedule.now c.refresh.new.into c.args.stations.now c.requires.sound c.requires.world c.requires.stands
    (record {
      same = told.setup;
      begins = told.begins;
      legal = told.legal;
      whole = record { grants = told.grants; horizon = told.horizon };
    }) c.pass_all-moved.new.stations c.pass_all-moved.ensures.each

pub returns-then-moved-clause-turn : goal.returns-then-moved-clause-turn
returns-then-moved-clause-turn g c =
    let by = λ (moved : Bool). IsTurnOf c.args.world.now c.refresh.new.into c.args.until moved c.args.stations.now
    c.go_on.new.stations in
    subst by (sym c.if-moved.true)
    (turn_of_more c.args.world.now c.refresh.new.into c.args.until c.args.stations.now c.pass_all-moved.new.stations
    c.go_on.new.stations c.if-moved.ensures c.go_on.ensures.gone)

pub returns-else-moved-clause-turn : goal.returns-else-moved-clause-turn
returns-else-moved-clause-turn g c =
    turn_of_one c.args.world.now c.refresh.new.into c.args.until c.pass_all-moved.result c.args.stations.now
    c.pass_all-moved.new.stations c.pass_all-moved.ensures

pub returns-else-moved-clause-stands : goal.returns-else-moved-clause-stands
returns-else-moved-clause-stands g c =
    let told = c.refresh.ensures in
    first_pass (g.F.Feed.setup c.args.feed.now) (g.F.Feed.setup c.refresh.new.self)
    (g.F.Feed.seen c.args.feed.now) (g.F.Feed.seen c.refresh.new.self) c.args.world.now c.args.until
    c.args.schedule.now c.refresh.new.into c.args.stations.now c.requires.sound c.requires.world c.requires.stands
    (record {
      same = told.setup;
      begins = told.begins;
      legal = told.legal;
      whole = record { grants = told.grants; horizon = told.horizon };
    }) c.pass_all-moved.new.stations c.pass_all-moved.ensures.each
