use Rattle.std.proofs.Common.{◌≡◌, ◌++◌, length, take, drop, true, false, refl, sym, ap, subst, ◌∙◌, arith}
use Rattle.std.proofs.lemmas.Grind.{common_steps}
use Rattle.tile_core.specs.Station.{station_state, HasRun}
use Rattle.tile_workers.specs.inner.Passing.{is_below, IsTurnOf}
use Rattle.tile_workers.proofs.Zips.{all_unmap}
use Rattle.tile_workers.proofs.Standing.{by_all_seen}
use Rattle.tile_workers.proofs.Turning.{first_turn, went_on, waited_on, ends_stay, done_none, gives_up}
use Rattle.tile_workers.proofs.working.work.Goals as goal

pub loop-idle-init : goal.loop-idle-init
loop-idle-init g c = record {
  same = refl;
  kept = refl;
  room = refl;
  working = first_turn c.args.world.now c.args.until (g.F.Feed.setup c.args.feed.now) (g.F.Feed.seen c.args.feed.now)
      c.args.schedule.now c.args.group.now.stations.items (g.F.Feed.turns c.args.feed.now) (record {
        legal = c.requires.legal;
        behind = c.requires.schedule;
        run = all_unmap
            (HasRun c.args.world.now (g.F.Feed.setup c.args.feed.now).loads c.args.schedule.now.grants.items)
            station_state c.args.group.now.stations.items c.requires.run;
        within = c.requires.within;
      });
}

pub returns-then-not-any_below-clause-ends : goal.returns-then-not-any_below-clause-ends
returns-then-not-any_below-clause-ends g c =
    ends_stay c.loop-idle.schedule c.args.until c.loop-idle.idle c.args.group.now.stations.items
    c.loop-idle.group.stations.items c.loop-idle.invariant.working.each

pub returns-then-not-any_below-clause-run : goal.returns-then-not-any_below-clause-run
returns-then-not-any_below-clause-run g c =
    (by_all_seen (g.F.Feed.setup c.args.feed.now) (g.F.Feed.setup c.loop-idle.feed) (g.F.Feed.seen c.loop-idle.feed)
    c.args.world.now c.args.until c.loop-idle.schedule c.loop-idle.group.stations.items c.requires.sound
    c.loop-idle.invariant.same c.loop-idle.invariant.working.stands).0

pub returns-then-not-any_below-clause-within : goal.returns-then-not-any_below-clause-within
returns-then-not-any_below-clause-within g c =
    (by_all_seen (g.F.Feed.setup c.args.feed.now) (g.F.Feed.setup c.loop-idle.feed) (g.F.Feed.seen c.loop-idle.feed)
    c.args.world.now c.args.until c.loop-idle.schedule c.loop-idle.group.stations.items c.requires.sound
    c.loop-idle.invariant.same c.loop-idle.invariant.working.stands).1

pub loop-idle-preserved-then-take_turn : goal.loop-idle-preserved-then-take_turn
loop-idle-preserved-then-take_turn g c =
    let told = c.take_turn.ensures in
    let items = c.loop-idle.group.stations.items in
    let new = c.take_turn.new.stations in
    let kept : take c.loop-idle.group.stations.len (new ++ drop (length new) items) ≡ new =
    grind (arith, common_steps) in
    record {
      same = told.setup ∙ c.loop-idle.invariant.same;
      kept = told.kept ∙ c.loop-idle.invariant.kept;
      room = told.room ∙ c.loop-idle.invariant.room;
      working = rw kept (went_on c.args.world.now c.args.until c.loop-idle.idle (g.F.Feed.setup c.loop-idle.feed)
          (g.F.Feed.setup c.take_turn.new.feed) (g.F.Feed.seen c.args.feed.now) (g.F.Feed.seen c.loop-idle.feed)
          (g.F.Feed.seen c.take_turn.new.feed) c.loop-idle.schedule c.take_turn.new.schedule
          c.args.group.now.stations.items items new (g.F.Feed.turns c.args.feed.now) (g.F.Feed.turns c.loop-idle.feed)
          (g.F.Feed.turns c.take_turn.new.feed) c.loop-idle.invariant.working (record {
            begins = told.begins;
            whole = told.whole;
            turns = told.turns;
            passes = subst (λ xs. IsTurnOf c.args.world.now c.take_turn.new.schedule c.args.until true xs new)
                c.deref_mut.ensures.value c.if-take_turn.ensures.turn;
            stands = told.stands;
          }));
    }

pub loop-idle-preserved : goal.loop-idle-preserved
loop-idle-preserved g c =
    let told = c.take_turn.ensures in
    let items = c.loop-idle.group.stations.items in
    let new = c.take_turn.new.stations in
    let kept : take c.loop-idle.group.stations.len (new ++ drop (length new) items) ≡ new =
    grind (arith, common_steps) in
    let met : is_below c.args.until c.deref.result.now ≡ true =
    sym {b = is_below c.args.until c.deref.result.now} c.if-not-any_below.ensures in
    let below : is_below c.args.until items ≡ true = ap (is_below c.args.until) (sym c.deref.ensures.value) ∙ met in
    record {
      same = told.setup ∙ c.loop-idle.invariant.same;
      kept = told.kept ∙ c.loop-idle.invariant.kept;
      room = told.room ∙ c.loop-idle.invariant.room;
      working = rw kept (waited_on c.args.world.now c.args.until c.loop-idle.idle (g.F.Feed.setup c.loop-idle.feed)
          (g.F.Feed.setup c.take_turn.new.feed) (g.F.Feed.seen c.args.feed.now) (g.F.Feed.seen c.loop-idle.feed)
          (g.F.Feed.seen c.take_turn.new.feed) c.loop-idle.schedule c.take_turn.new.schedule
          c.args.group.now.stations.items items new (g.F.Feed.turns c.args.feed.now) (g.F.Feed.turns c.loop-idle.feed)
          (g.F.Feed.turns c.take_turn.new.feed) c.loop-idle.invariant.working c.loop-idle-test.true
          below (record {
            begins = told.begins;
            whole = told.whole;
            turns = told.turns;
            passes = subst (λ xs. IsTurnOf c.args.world.now c.take_turn.new.schedule c.args.until false xs new)
                c.deref_mut.ensures.value c.if-take_turn.ensures.turn;
            stands = told.stands;
          }));
    }

pub returns-clause-ends : goal.returns-clause-ends
returns-clause-ends g c =
    ends_stay c.loop-idle.schedule c.args.until c.loop-idle.idle c.args.group.now.stations.items
    c.loop-idle.group.stations.items c.loop-idle.invariant.working.each

pub returns-clause-run : goal.returns-clause-run
returns-clause-run g c =
    (by_all_seen (g.F.Feed.setup c.args.feed.now) (g.F.Feed.setup c.loop-idle.feed) (g.F.Feed.seen c.loop-idle.feed)
    c.args.world.now c.args.until c.loop-idle.schedule c.loop-idle.group.stations.items c.requires.sound
    c.loop-idle.invariant.same c.loop-idle.invariant.working.stands).0

pub returns-clause-within : goal.returns-clause-within
returns-clause-within g c =
    (by_all_seen (g.F.Feed.setup c.args.feed.now) (g.F.Feed.setup c.loop-idle.feed) (g.F.Feed.seen c.loop-idle.feed)
    c.args.world.now c.args.until c.loop-idle.schedule c.loop-idle.group.stations.items c.requires.sound
    c.loop-idle.invariant.same c.loop-idle.invariant.working.stands).1

pub returns-clause-done : goal.returns-clause-done
returns-clause-done g c =
    let none = done_none c.args.until c.loop-idle.group.stations.items in
    let idle = c.loop-idle.invariant.working in
    let below = idle.below (omega arith) in
    (λ e. cc, λ done. let no = none done in cc)

pub returns-clause-idle : goal.returns-clause-idle
returns-clause-idle g c = λ e.
    gives_up c.args.world.now c.args.until c.loop-idle.idle (g.F.Feed.setup c.loop-idle.feed)
    (g.F.Feed.seen c.args.feed.now) (g.F.Feed.seen c.loop-idle.feed) c.loop-idle.schedule
    c.args.group.now.stations.items c.loop-idle.group.stations.items (g.F.Feed.turns c.args.feed.now)
    (g.F.Feed.turns c.loop-idle.feed) c.loop-idle.invariant.working c.loop-idle-test.false
