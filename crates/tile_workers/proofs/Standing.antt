-- How the things of a worker stand after the feed was asked, and after a pass.
use Rattle.std.proofs.Common.{◌≡◌, ℕ, ◌*◌, ◌≤◌, Bool, true, false, List, ◌++◌, get_or, map, All, inl, inr, sym, subst, ap, ◌∙◌, append_assoc, [], arith}
use Rattle.std.proofs.lemmas.List.{append-nil}
use Rattle.std.proofs.Math.Nat.{mul-le-mul_right, le_trans}
use mathlib.Core.List.{IsPrefix}
use Rattle.std.proofs.lemmas.List.Elements.{All-map}
use Rattle.soc_base.specs.declared.limits.TheConstants.{LAST_CYCLE}
use Rattle.bundle_model.specs.declared.world.World.{World}
use Rattle.bundle_model.specs.declared.world.LoadName.{LoadName}
use Rattle.bundle_model.specs.declared.world.Schedule.{Schedule}
use Rattle.bundle_model.specs.Grants.{IsApart}
use Rattle.bundle_model.specs.World.{IsSoundWorld, AreOfLoads}
use Rattle.lockstep.specs.Seen.{AreSeenAlike}
use Rattle.vep_manager.specs.declared.setup.Setup.{Setup}
use Rattle.vep_manager.specs.declared.reply.Entry.{Entry}
use Rattle.vep_manager.specs.History.{grants_of, horizon_of}
use Rattle.vep_manager.specs.Legal.{IsLegal}
use Rattle.vep_manager.specs.Setup.{IsSound}
use Rattle.vep_manager.proofs.Laws.{sound_world, legal_apart, grants_of_loads, horizon_grows, horizon_within}
use Rattle.core_model.proofs.Laws.{history_alike}
use Rattle.tile_core.specs.declared.station.Station.{Station}
use Rattle.tile_core.specs.Station.{station_state, HasRun}
use Rattle.tile_core.specs.Fit.{IsUnderway}
use Rattle.tile_core.proofs.Laws.{run_underway, has_run_stays}
use Rattle.tile_workers.specs.Work.{IsScheduleOf, AreWithin}
use Rattle.tile_workers.specs.inner.Passing.{IsPassed, ArePassed, Stands}
use Rattle.tile_workers.proofs.Zips.{zip_all}

-- what begins a list begins every list that the list begins
pub prefix_then : {X : Type 0} (xs ys zs : List X) → IsPrefix xs ys → IsPrefix ys zs → IsPrefix xs zs
prefix_then xs ys zs one other =
    (one.0 ++ other.0, sym (append_assoc xs one.0 other.0) ∙ ap (λ l. l ++ other.0) one.1 ∙ other.1)

-- the horizon of a longer history is no less
longer_horizon : (setup : Setup) (old new : List Entry) → IsPrefix old new → horizon_of setup old ≤ horizon_of setup new
longer_horizon setup old new begins =
    subst (λ history. horizon_of setup old ≤ horizon_of setup history) begins.1 (horizon_grows setup old begins.0)

module _ (setup : Setup) (sound : IsSound setup) where
  -- by a longer history the stations ran alike, and are within its horizon
  pub caught_up : (old new : List Entry) (world : World) (until : ℕ) (schedule : Schedule) (stations : List Station)
      → Stands setup old world until schedule stations → IsPrefix old new → IsLegal setup new
      → All (λ station. HasRun world setup.loads (grants_of setup new) (station_state station)) stations
      × AreWithin until (horizon_of setup new) stations
  caught_up old new world until schedule stations stands begins legal =
      let seen = stands.behind.0 in
      let of = stands.behind.2 in
      let front = prefix_then seen old new stands.behind.1 begins in
      let alike : AreSeenAlike schedule.horizon schedule.grants.items (grants_of setup new) =
      rw (of.horizon, of.grants) (history_alike setup sound seen new front legal) in
      let most : schedule.horizon ≤ horizon_of setup new = rw of.horizon (longer_horizon setup seen new front) in (
        λ place d inside. has_run_stays world setup.loads schedule.grants.items (grants_of setup new)
            schedule.horizon (station_state (get_or stations place d)) alike (stands.within place d inside).1
            (stands.run place d inside),
        λ place d inside. let here = stands.within place d inside in (here.0, omega arith),
      )

  -- the feed was asked
  pub asked : (old new : List Entry) (world : World) (until : ℕ) (schedule next : Schedule) (stations : List Station)
      → Stands setup old world until schedule stations → IsPrefix old new → IsLegal setup new
      → IsScheduleOf setup new next → Stands setup new world until next stations
  asked old new world until schedule next stations stands begins legal of =
      let up = caught_up old new world until schedule stations stands begins legal in
      record {
        legal = legal;
        behind = (new, ([], append-nil new), of);
        run = rw of.grants up.0;
        within = rw of.horizon up.1;
      }

  -- so each tile can go on
  pub underway : (history : List Entry) (world : World) (until : ℕ) (schedule : Schedule) (stations : List Station)
      → world ≡ setup.world → Stands setup history world until schedule stations → IsScheduleOf setup history schedule
      → All (λ station. IsUnderway world schedule station.tile) stations
  underway history world until schedule stations same stands of =
      let sound_loads : IsSoundWorld world setup.loads = rw same (sound_world setup sound) in
      let apart : IsApart world schedule.grants.items =
      rw (same, of.grants) (legal_apart setup sound history stands.legal) in
      let of_loads : AreOfLoads setup.loads schedule.grants.items =
      rw of.grants (grants_of_loads setup sound history stands.legal) in
      let low : schedule.horizon ≤ setup.budget = rw of.horizon (horizon_within setup history) in
      let last : schedule.horizon * setup.world.platform.slot_cycles ≤ LAST_CYCLE =
      le_trans (mul-le-mul_right setup.world.platform.slot_cycles low) sound.budget in
      let bounded : schedule.horizon * world.platform.slot_cycles ≤ LAST_CYCLE = rw same last in
      λ place d inside. run_underway world setup.loads schedule (station_state (get_or stations place d))
      sound_loads apart of_loads bounded (stands.run place d inside)

-- the stations of a worker by all that it has seen
pub by_all_seen : (first setup : Setup) (seen : List Entry) (world : World) (until : ℕ) (schedule : Schedule)
    (stations : List Station) → IsSound first → setup ≡ first → Stands setup seen world until schedule stations
    → All (HasRun world setup.loads (grants_of setup seen)) (map station_state stations)
    × AreWithin until (horizon_of setup seen) stations
by_all_seen first setup seen world until schedule stations sound same stands =
    let up = caught_up setup (subst IsSound (sym same) sound) seen seen world until schedule stations stands
    ([], append-nil seen) stands.legal in
    (All-map (HasRun world setup.loads (grants_of setup seen)) station_state stations up.0, up.1)

-- a station that was passed has run on, and is within the slot and the horizon
passed_run : (world : World) (loads : List LoadName) (schedule : Schedule) (until : ℕ) (moved : Bool) (x y : Station)
    → IsPassed world schedule until moved x y
    → HasRun world loads schedule.grants.items (station_state x)
    → HasRun world loads schedule.grants.items (station_state y)
passed_run world loads schedule until moved x y (inl tried) has = tried.1.run loads has
passed_run world loads schedule until moved x y (inr not) has =
    subst (λ station. HasRun world loads schedule.grants.items (station_state station)) (sym not.1) has

abbrev IsWithin : ℕ → ℕ → Station → Type 0
IsWithin until horizon station = (station.tile.at ≤ until) × (station.tile.at ≤ horizon)

passed_within : (world : World) (schedule : Schedule) (until : ℕ) (moved : Bool) (x y : Station)
    → IsPassed world schedule until moved x y → IsWithin until schedule.horizon x
    → IsWithin until schedule.horizon y
passed_within world schedule until true x y (inl tried) within =
    let low = tried.0 in
    let below = tried.1.answer.below in
    let at = tried.1.answer.at in (omega arith, omega arith)
passed_within world schedule until false x y (inl tried) within =
    let at = tried.1.answer.at in (omega arith, omega arith)
passed_within world schedule until moved x y (inr not) within =
    subst (IsWithin until schedule.horizon) (sym not.1) within

-- after a pass
pub after_pass : (setup : Setup) (history : List Entry) (world : World) (until : ℕ) (schedule : Schedule)
    (old new : List Station) → Stands setup history world until schedule old
    → ArePassed world schedule until old new → Stands setup history world until schedule new
after_pass setup history world until schedule old new stands passed =
    let R = λ (x : Station) (y : Station). (moved : Bool) × IsPassed world schedule until moved x y in
    let P = λ (station : Station). HasRun world setup.loads schedule.grants.items (station_state station) in
    record {
      legal = stands.legal;
      behind = stands.behind;
      run = zip_all R P P (λ x y one has. passed_run world setup.loads schedule until one.0 x y one.1 has) old new
          passed stands.run;
      within = zip_all R (IsWithin until schedule.horizon) (IsWithin until schedule.horizon)
          (λ x y one within. passed_within world schedule until one.0 x y one.1 within) old new passed stands.within;
    }

-- The feed was asked: it is still one of the same setup, what it has seen has grown and is a legal history,
-- and the schedule is that of this history.
pub record IsRefreshed (setup next_setup : Setup) (old new : List Entry) (next : Schedule) : Type 0 where
  pub same : next_setup ≡ setup
  pub begins : IsPrefix old new
  pub legal : IsLegal next_setup new
  pub whole : IsScheduleOf next_setup new next

-- The first pass of a turn.
module _ (setup next_setup : Setup) (old new : List Entry) (world : World) (until : ℕ) (schedule next : Schedule)
    (stations : List Station) (sound : IsSound setup) (world_is : world ≡ setup.world)
    (stands : Stands setup old world until schedule stations) (refreshed : IsRefreshed setup next_setup old new next)
  where
    -- before it each tile can go on
    pub turn_begins : Stands next_setup new world until next stations
        × All (λ station. IsUnderway world next station.tile) stations
    turn_begins =
        let same = refreshed.same in
        let whole = refreshed.whole in
        let sound_next : IsSound next_setup = subst IsSound (sym same) sound in
        let stands_next : Stands next_setup old world until schedule stations =
        subst (λ s. Stands s old world until schedule stations) (sym same) stands in
        let world_next : world ≡ next_setup.world = world_is ∙ ap (λ (s : Setup). s.world) (sym same) in
        let now = asked next_setup sound_next old new world until schedule next stations stands_next refreshed.begins
        refreshed.legal whole in
        (now, underway next_setup sound_next new world until next stations world_next now whole)

    -- after it the stations stand by the new schedule
    pub first_pass : (passed : List Station) → ArePassed world next until stations passed
        → Stands next_setup new world until next passed
    first_pass passed each = after_pass next_setup new world until next stations passed turn_begins.0 each
