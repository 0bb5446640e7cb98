-- A worker from turn to turn, and what it ends with.
use Rattle.std.proofs.Common.{◌≡◌, ℕ, ◌+◌, ◌<◌, ◌≤◌, Bool, true, false, List, [], ◌∷◌, map, ◌||◌, nat_lt, Some, refl, ap, subst, ◌∙◌, inl, inr, arith}
use mathlib.Core.List.{IsPrefix}
use Rattle.std.specs.List.{AllZip}
use Rattle.std.proofs.lemmas.Bool.{ltb-true, le-ltb}
use Rattle.std.proofs.lemmas.List.{append-nil}
use Rattle.std.proofs.lemmas.List.Folds.{Any-from_list_any, list_any_none}
use Rattle.std.proofs.lemmas.Option.{slice_get-get_or}
use Rattle.bundle_model.specs.declared.world.World.{World}
use Rattle.bundle_model.specs.declared.world.Schedule.{Schedule}
use Rattle.vep_manager.specs.declared.setup.Setup.{Setup}
use Rattle.vep_manager.specs.declared.reply.Entry.{Entry}
use Rattle.tile_core.specs.declared.station.Station.{Station}
use Rattle.tile_core.specs.Station.{station_state, ends_of}
use Rattle.tile_workers.specs.declared.working.TheConstants.{MOST_IDLE_TURNS}
use Rattle.tile_workers.specs.Work.{RoseBy, Rises, IsScheduleOf, AreDone, IsIdle}
use Rattle.tile_workers.specs.inner.Passing.{is_below, IsPassed, HasGoneOn, IsTurnOf, Stands}
use Rattle.tile_workers.proofs.Zips.{zip_same, zip_then, zip_map, zip_at}
use Rattle.tile_workers.proofs.Standing.{prefix_then}
use Rattle.tile_workers.proofs.Counts.{rose_then, rose_none}
use Rattle.tile_workers.proofs.Waiting.{HasWaited, waited_none, waited_more, waited_anew}

-- a worker's things, at first and after some turns, of which so many in a row were idle
pub record IsWorking (world : World) (until idle : ℕ) (setup : Setup) (first seen : List Entry)
    (schedule : Schedule) (old new : List Station) (turns_first turns_now : ℕ) : Type 0 where
  pub begins : IsPrefix first seen
  pub stands : Stands setup seen world until schedule new
  pub few : idle ≤ MOST_IDLE_TURNS
  pub turns : RoseBy idle turns_first turns_now
  pub each : AllZip (HasWaited schedule until idle) old new
  pub below : 0 < idle → is_below until new ≡ true
  pub whole : 0 < idle → IsScheduleOf setup seen schedule

-- one turn
pub record IsTurn (world : World) (until : ℕ) (moved : Bool) (setup : Setup) (seen more : List Entry)
    (schedule : Schedule) (old new : List Station) (turns_old turns_new : ℕ) : Type 0 where
  pub begins : IsPrefix seen more
  pub whole : IsScheduleOf setup more schedule
  pub turns : Rises turns_old turns_new
  pub passes : IsTurnOf world schedule until moved old new
  pub stands : Stands setup more world until schedule new

-- before the first turn
pub first_turn : (world : World) (until : ℕ) (setup : Setup) (seen : List Entry) (schedule : Schedule)
    (stations : List Station) (turns : ℕ) → Stands setup seen world until schedule stations
    → IsWorking world until 0 setup seen seen schedule stations stations turns turns
first_turn world until setup seen schedule stations turns stands = record {
  begins = ([], append-nil seen);
  stands = stands;
  few = omega arith;
  turns = inl (omega arith);
  each = zip_same (HasWaited schedule until 0) (waited_none schedule until) stations;
  below = λ none. absurd (omega arith);
  whole = λ none. absurd (omega arith);
}

-- a pass in which no station went on leaves as many below the slot
passed_at : (world : World) (schedule : Schedule) (until : ℕ) (x y : Station)
    → IsPassed world schedule until false x y → y.tile.at ≡ x.tile.at
passed_at world schedule until x y (inl tried) = tried.1.answer.at
passed_at world schedule until x y (inr not) = ap (λ (station : Station). station.tile.at) not.1

still_below : (world : World) (schedule : Schedule) (until : ℕ) (xs ys : List Station)
    → AllZip (IsPassed world schedule until false) xs ys → is_below until ys ≡ is_below until xs
still_below world schedule until [] [] a = refl
still_below world schedule until [] (y ∷ ys) a = absurd a
still_below world schedule until (x ∷ xs) [] a = absurd a
still_below world schedule until (x ∷ xs) (y ∷ ys) a =
    ap (λ at. nat_lt at until || is_below until ys) (passed_at world schedule until x y a.0)
    ∙ ap (λ b. nat_lt x.tile.at until || b) (still_below world schedule until xs ys a.1)

module _ (world : World) (until idle : ℕ) (setup next_setup : Setup) (first seen more : List Entry)
    (schedule next : Schedule) (old mid new : List Station) (turns_first turns_old turns_new : ℕ)
    (so_far : IsWorking world until idle setup first seen schedule old mid turns_first turns_old) where
  -- a turn in which a station went on
  pub went_on : IsTurn world until true next_setup seen more next mid new turns_old turns_new
      → IsWorking world until 0 next_setup first more next old new turns_first turns_new
  went_on turn = record {
    begins = prefix_then first seen more so_far.begins turn.begins;
    stands = turn.stands;
    few = omega arith;
    turns = rose_none (idle + 1) turns_first turns_new
        (rose_then idle turns_first turns_old turns_new so_far.turns turn.turns);
    each = zip_then (HasWaited schedule until idle) HasGoneOn (HasWaited next until 0)
        (λ x y z has on. waited_anew schedule next until idle x y z has on) old mid new so_far.each turn.passes.each;
    below = λ none. absurd (omega arith);
    whole = λ none. absurd (omega arith);
  }

  -- a turn in which none did
  pub waited_on : idle < MOST_IDLE_TURNS → is_below until mid ≡ true
      → IsTurn world until false next_setup seen more next mid new turns_old turns_new
      → IsWorking world until (idle + 1) next_setup first more next old new turns_first turns_new
  waited_on few below turn =
      let none = turn.passes.none refl in
      record {
        begins = prefix_then first seen more so_far.begins turn.begins;
        stands = turn.stands;
        few = omega arith;
        turns = rose_then idle turns_first turns_old turns_new so_far.turns turn.turns;
        each = zip_then (HasWaited schedule until idle) (IsPassed world next until false)
            (HasWaited next until (idle + 1))
            (λ x y z has one. waited_more world schedule next until idle x y z (omega arith) has one)
            old mid new so_far.each none;
        below = λ some. still_below world next until mid new none ∙ below;
        whole = λ some. turn.whole;
      }

-- the ends of the links stay
pub ends_stay : (schedule : Schedule) (until idle : ℕ) (old new : List Station)
    → AllZip (HasWaited schedule until idle) old new
    → map (λ (station : Station). ends_of (station_state station)) new
    ≡ map (λ (station : Station). ends_of (station_state station)) old
ends_stay schedule until idle old new each =
    zip_map (HasWaited schedule until idle) (λ (station : Station). ends_of (station_state station))
    (λ x y has. has.ends) old new each

-- where all tiles are at the slot none is below it
pub done_none : (until : ℕ) (stations : List Station) → AreDone until stations → is_below until stations ≡ false
done_none until stations done =
    list_any_none (λ station. nat_lt station.tile.at until) stations
    (λ place d inside. let at = done place d inside in le-ltb _ _ (omega arith))

-- what a worker that gives up leaves
pub gives_up : (world : World) (until idle : ℕ) (setup : Setup) (first seen : List Entry) (schedule : Schedule)
    (old new : List Station) (turns_first turns : ℕ)
    → IsWorking world until idle setup first seen schedule old new turns_first turns → MOST_IDLE_TURNS ≤ idle
    → IsIdle until schedule old new turns_first turns
gives_up world until idle setup first seen schedule old new turns_first turns working most =
    let few = working.few in
    let all : idle ≡ MOST_IDLE_TURNS = omega arith in
    let some = Any-from_list_any (λ station. nat_lt station.tile.at until) new (working.below (omega arith)) in
    let each = subst (λ n. AllZip (HasWaited schedule until n) old new) all working.each in
    record {
      place = some.0;
      station = some.1;
      there = slice_get-get_or new some.0 some.1 some.2 ∙ ap Some some.3;
      below = ltb-true _ _ some.4;
      turns = subst (λ n. RoseBy n turns_first turns) all working.turns;
      each = λ place before after was is low.
          let waited = zip_at (HasWaited schedule until MOST_IDLE_TURNS) old new each place before after was is in
          let waits = waited.waits low in
          record { tries = waits.tries; still = waits.still; held_up = waits.held_up (omega arith) };
    }
