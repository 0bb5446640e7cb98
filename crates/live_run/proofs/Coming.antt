-- Tiles that have run as far as the entries that were seen allow.
use Rattle.std.proofs.Common.{◌≡◌, List, [], ◌∷◌, ◌++◌, get_or, map, subst, sym, ap, ◌∙◌, append_assoc, arith}
use Rattle.std.specs.List.{All}
use Rattle.std.proofs.lemmas.List.{get_or-map, append-nil, length-map, map-append}
use Rattle.std.proofs.lemmas.List.Elements.{All-map, All-push}
use mathlib.Core.List.{IsPrefix}
use Rattle.bundle_model.specs.declared.world.World.{World}
use Rattle.bundle_model.specs.declared.world.LoadName.{LoadName}
use Rattle.bundle_model.specs.declared.world.Grant.{Grant}
use Rattle.tile_core.specs.declared.station.Station.{Station}
use Rattle.tile_core.specs.Station.{Ends, station_state, HasRun}
use Rattle.tile_core.proofs.Laws.{has_run_stays}
use Rattle.tile_workers.specs.Work.{AreWithin}
use Rattle.vep_manager.specs.declared.setup.Setup.{Setup}
use Rattle.vep_manager.specs.declared.reply.Entry.{Entry}
use Rattle.vep_manager.specs.Setup.{IsSound}
use Rattle.vep_manager.specs.History.{grants_of, horizon_of}
use Rattle.vep_manager.specs.Legal.{IsLegal}
use Rattle.core_model.proofs.Laws.{history_alike}
use Rattle.live_run.specs.declared.worker.Worker.{Worker}
use Rattle.live_run.specs.inner.Workers.{IsFirst, HasCome, HasWorked, HaveWorked, hand, ends_in}

pub prefix_trans : {X : Type 0} (xs ys zs : List X) → IsPrefix xs ys → IsPrefix ys zs → IsPrefix xs zs
prefix_trans xs ys zs one other =
    (one.0 ++ other.0, sym (append_assoc xs one.0 other.0) ∙ ap (λ l. l ++ other.0) one.1 ∙ other.1)

-- stations before the first slot have run by any grants
pub first_runs : (world : World) (loads : List LoadName) (grants : List Grant) (stations : List Station)
    → All (IsFirst world loads) stations → All (HasRun world loads grants) (map station_state stations)
first_runs world loads grants stations first =
    All-map (HasRun world loads grants) station_state stations (λ k d below. (first k d below).run grants)

-- stations have come as far as all entries that were seen allow
pub come_to : (setup : Setup) (seen : List Entry) (stations : List Station)
    → All (HasRun setup.world setup.loads (grants_of setup seen)) (map station_state stations)
    → AreWithin setup.budget (horizon_of setup seen) stations → All (HasCome setup seen) stations
come_to setup seen stations run within = λ k d below.
    let at = within k d below in
    record {
      front = seen;
      begins = ([], append-nil seen);
      run = subst (HasRun setup.world setup.loads (grants_of setup seen))
          (get_or-map station_state stations k d (station_state d) below)
          (run k (station_state d) (omega (arith, length-map stations station_state, below)));
      low = at.0;
      known = at.1;
    }

-- and so they have where more was seen
pub come_more : (setup : Setup) (old new : List Entry) → IsPrefix old new → (station : Station)
    → HasCome setup old station → HasCome setup new station
come_more setup old new begins station come = record {
  front = come.front;
  begins = prefix_trans come.front old new come.begins begins;
  run = come.run;
  low = come.low;
  known = come.known;
}

-- such stations have run by the grants of every legal history that begins with what was seen
pub come_run : (setup : Setup) (seen history : List Entry) (stations : List Station) → IsSound setup
    → IsLegal setup history → IsPrefix seen history → All (HasCome setup seen) stations
    → All (HasRun setup.world setup.loads (grants_of setup history)) (map station_state stations)
come_run setup seen history stations sound legal begins come =
    All-map (HasRun setup.world setup.loads (grants_of setup history)) station_state stations (λ k d below.
    let here = come k d below in
    has_run_stays setup.world setup.loads (grants_of setup here.front) (grants_of setup history)
    (horizon_of setup here.front) (station_state (get_or stations k d))
    (history_alike setup sound here.front history (prefix_trans here.front seen history here.begins begins) legal)
    here.known here.run)

-- the same where the setup that was told is the run's
pub come_told : (setup told : Setup) (seen : List Entry) (stations : List Station) → told ≡ setup
    → All (HasRun setup.world told.loads (grants_of told seen)) (map station_state stations)
    → AreWithin setup.budget (horizon_of told seen) stations → All (HasCome setup seen) stations
come_told setup told seen stations same run within =
    come_to setup seen stations
    (subst (λ (s : Setup). All (HasRun setup.world s.loads (grants_of s seen)) (map station_state stations)) same run)
    (subst (λ (s : Setup). AreWithin setup.budget (horizon_of s seen) stations) same within)

-- workers have worked, and more was seen
pub more_seen : (setup : Setup) (seen more : List Entry) (old new : List Worker) → IsPrefix seen more
    → HaveWorked setup seen old new → HaveWorked setup more old new
more_seen setup seen more old new begins worked = record {
  come = λ k d below i e low.
      come_more setup seen more begins (get_or (hand (get_or new k d)) i e) (worked.come k d below i e low);
  ends = worked.ends;
}

-- one more of them
pub one_more : (setup : Setup) (seen its more : List Entry) (old new : List Worker) (before after : Worker)
    → IsPrefix seen more → IsPrefix its more → HaveWorked setup seen old new → HasWorked setup its before after
    → HaveWorked setup more (old ++ before ∷ []) (new ++ after ∷ [])
one_more setup seen its more old new before after begins other worked one =
    let ends = λ (worker : Worker). ends_in (hand worker) in
    let all = more_seen setup seen more old new begins worked in
    record {
      come = All-push (λ (worker : Worker). All (HasCome setup more) (hand worker)) new after all.come
          (λ i e low. come_more setup its more other (get_or (hand after) i e) (one.come i e low));
      ends = map-append ends new (after ∷ [])
          ∙ ap (λ (l : List (List Ends)). l ++ ends after ∷ []) all.ends
          ∙ ap (λ (l : List Ends). map ends old ++ l ∷ []) one.ends
          ∙ sym (map-append ends old (before ∷ []));
    }
