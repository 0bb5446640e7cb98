-- Stations that are gathered from workers can be taken to the end of the run.
use Rattle.std.proofs.Common.{◌≡◌, ℕ, List, [], length, get_or, map, refl, sym, subst, ap, ◌∙◌, Vec, arith}
use Rattle.std.specs.Prelude.{IsTrue}
use Rattle.std.specs.List.{All, range_with_len}
use Rattle.std.specs.Global.{Global}
use Rattle.std.proofs.lemmas.List.{get_or-map, append-nil, length-map}
use Rattle.std.proofs.lemmas.List.Elements.{All-nil, All-map}
use Rattle.std.proofs.lemmas.List.FromFn.{length-range_with_len, get_or-map-range_with_len}
use Rattle.std.proofs.lemmas.Simd.{map-map}
use Rattle.bundle_model.specs.declared.world.World.{World}
use Rattle.bundle_model.specs.declared.world.LoadName.{LoadName}
use Rattle.bundle_model.specs.declared.world.Grant.{Grant}
use Rattle.bundle_model.specs.declared.world.Schedule.{Schedule}
use Rattle.tile_core.specs.Tile.{TileState, fresh_tile}
use Rattle.tile_core.specs.Lockstep.{machine_at}
use Rattle.tile_core.specs.declared.station.Station.{Station}
use Rattle.tile_core.specs.Station.{StationState, Ends, station_state, ends_of, HasRun, HaveRun, AreFreshStations}
use Rattle.tile_core.proofs.Laws.{fresh_at}
use Rattle.vep_manager.specs.declared.setup.Setup.{Setup}
use Rattle.vep_manager.specs.declared.reply.Entry.{Entry}
use Rattle.vep_manager.specs.Setup.{IsSound}
use Rattle.vep_manager.specs.Manager.{ManagerState}
use Rattle.vep_manager.specs.History.{IsSession, is_used_up, grants_of, horizon_of}
use Rattle.vep_manager.specs.Legal.{IsLegal}
use Rattle.serial_run.specs.Run.{AreInStep}
use Rattle.serial_run.proofs.Laws.{AreReadyToFinish, IsScheduled}
use Rattle.live_run.specs.declared.worker.Worker.{Worker}
use Rattle.live_run.specs.inner.Hands.{gathered}
use Rattle.live_run.specs.inner.Workers.{IsFirst, IsBlank, IsFresh, HasCome, HaveWorked, AreStaffed, hand, schedule_of, ends_in}
use Rattle.live_run.proofs.Coming.{come_run}
use Rattle.live_run.proofs.Hands.{gathered_all, gathered_map}
use Rattle.live_run.proofs.Linking.{linked_alike}
use Rattle.live_run.proofs.UsedUp.{complete_of}

-- the stations of a platform before the first slot
pub built_first : (world : World) (loads : List LoadName) (built : List Station) → AreFreshStations world loads built
    → ((grants : List Grant) → HaveRun world loads grants (map station_state built))
    → All (IsFirst world loads) built
built_first world loads built fresh run = λ k d below.
    let tile = λ (station : Station). let state : TileState = station.tile in state in
    let tiles : map tile built ≡ map (fresh_tile world loads) (range_with_len 0 world.platform.tiles) = fresh.tiles in
    let long : length built ≡ world.platform.tiles =
    sym (length-map built tile) ∙ ap (λ (l : List TileState). length l) tiles
    ∙ length-map (range_with_len 0 world.platform.tiles) (fresh_tile world loads)
    ∙ length-range_with_len 0 world.platform.tiles in
    let here : tile (get_or built k d) ≡ fresh_tile world loads k =
    sym (get_or-map tile built k d (tile d) below) ∙ ap (λ (l : List TileState). get_or l k (tile d)) tiles
    ∙ get_or-map-range_with_len (fresh_tile world loads) 0 world.platform.tiles k k (tile d) (omega (arith, long, below)) (omega arith) in
    record {
      begins = ap (λ (state : TileState). state.at) here ∙ fresh_at world loads k;
      run = λ grants. subst (HasRun world loads grants) (get_or-map station_state built k d (station_state d) below)
          ((run grants).each k (station_state d) (omega (arith, length-map built station_state, below)));
    }

-- as many stations as tiles
pub built_long : (world : World) (loads : List LoadName) (built : List Station) → AreFreshStations world loads built
    → length built ≡ world.platform.tiles
built_long world loads built fresh =
    let tile = λ (station : Station). let state : TileState = station.tile in state in
    let tiles : map tile built ≡ map (fresh_tile world loads) (range_with_len 0 world.platform.tiles) = fresh.tiles in
    sym (length-map built tile) ∙ ap (λ (l : List TileState). length l) tiles
    ∙ length-map (range_with_len 0 world.platform.tiles) (fresh_tile world loads)
    ∙ length-range_with_len 0 world.platform.tiles

-- no worker has a tile yet
pub none_first : (world : World) (loads : List LoadName) (crew : List Worker) → All (λ worker. hand worker ≡ []) crew
    → All (All (IsFirst world loads)) (map hand crew)
none_first world loads crew free = All-map (All (IsFirst world loads)) hand crew
    (λ k d below. subst (All (IsFirst world loads)) (sym (free k d below)) (All-nil (IsFirst world loads)))

-- workers whose schedules are blank and whose stations are at their first slot
pub fresh_crew : (setup : Setup) (crew : List Worker) → All (IsBlank setup) (map schedule_of crew)
    → All (All (IsFirst setup.world setup.loads)) (map hand crew) → All (IsFresh setup) crew
fresh_crew setup crew blank first = λ k d below. record {
  schedule = subst (IsBlank setup) (get_or-map schedule_of crew k d (schedule_of d) below)
      (blank k (schedule_of d) (omega (arith, length-map crew schedule_of, below)));
  first = subst (All (IsFirst setup.world setup.loads)) (get_or-map hand crew k d (hand d) below)
      (first k (hand d) (omega (arith, length-map crew hand, below)));
}

abbrev ends_at : Station → Ends
ends_at station = ends_of (station_state station)

-- what was gathered has the ends that were dealt out
same_ends : (tiles : ℕ) (old new : List Worker) (stations built : List Station)
    → map (λ worker. ends_in (hand worker)) new ≡ map (λ worker. ends_in (hand worker)) old
    → stations ≡ gathered (length old) tiles 0 [] (map hand new)
    → gathered (length old) tiles 0 [] (map hand old) ≡ built → map ends_at stations ≡ map ends_at built
same_ends tiles old new stations built same is dealt =
    let workers = length old in
    let by = λ (crew : List Worker). gathered_map ends_at workers tiles 0 [] (map hand crew)
    ∙ ap (λ (h : List (List Ends)). gathered workers tiles 0 [] h) (map-map (map ends_at) hand crew) in
    ap (map ends_at) is ∙ by new ∙ ap (λ (h : List (List Ends)). gathered workers tiles 0 [] h) same ∙ sym (by old)
    ∙ ap (map ends_at) dealt

-- what workers have brought together is ready to be taken to the end
pub ready : (setup : Setup) (history : List Entry) (schedule : Schedule) (old new : List Worker)
    (before : Vec Station Global) (stations : List Station) → IsSound setup → IsLegal setup history
    → AreStaffed setup old before → HaveWorked setup history old new
    → stations ≡ gathered (length old) setup.world.platform.tiles 0 [] (map hand new)
    → schedule.grants.items ≡ grants_of setup history → AreReadyToFinish setup schedule stations
ready setup history schedule old new before stations sound legal staffed worked is grants =
    let tiles = setup.world.platform.tiles in
    let come : All (HasCome setup history) stations =
    subst (All (HasCome setup history)) (sym is)
    (gathered_all (HasCome setup history) (length old) tiles 0 [] (map hand new) (All-nil (HasCome setup history))
    (All-map (All (HasCome setup history)) hand new worked.come)) in
    let first = staffed.run schedule.grants.items in
    let same = same_ends tiles old new stations staffed.built worked.ends is staffed.dealt in
    let states : map ends_of (map station_state stations) ≡ map ends_of (map station_state staffed.built) =
    map-map ends_of station_state stations ∙ same ∙ sym (map-map ends_of station_state staffed.built) in
    let numbers = λ (list : List StationState). map-map (λ (e : Ends). e.number) ends_of list in
    record {
      run = record {
        in_order = sym (numbers (map station_state stations)) ∙ ap (map (λ (e : Ends). e.number)) states
            ∙ numbers (map station_state staffed.built) ∙ first.in_order;
        each = subst (λ (g : List Grant). All (HasRun setup.world setup.loads g) (map station_state stations)) (sym grants)
            (come_run setup history history stations sound legal ([], append-nil history) come);
        linked = linked_alike setup.world.platform.links (map station_state staffed.built) (map station_state stations) states first.linked;
      };
      low = λ k d below. (come k d below).low;
    }

-- the workers are as many as before
pub worked_long : (setup : Setup) (seen : List Entry) (old new : List Worker) → HaveWorked setup seen old new
    → length new ≡ length old
worked_long setup seen old new worked =
    let ends = λ (worker : Worker). ends_in (hand worker) in
    sym (length-map new ends) ∙ ap (λ (l : List (List Ends)). length l) worked.ends ∙ length-map old ends

-- a schedule that was made of a manager in whose history all commands stand
pub scheduled : (setup : Setup) (end : ManagerState) (schedule : Schedule) → IsSound setup → end.setup ≡ setup
    → IsLegal end.setup end.history
    → ((session : ℕ) → IsSession setup session → IsTrue (is_used_up setup end.history session))
    → schedule.grants.items ≡ grants_of end.setup end.history
    → schedule.horizon ≡ horizon_of end.setup end.history
    → IsScheduled setup (record { setup = setup; history = end.history }) schedule
scheduled setup end schedule sound same legal up grants horizon =
    let here = subst (λ (s : Setup). IsLegal s end.history) same legal in
    record {
      same = refl;
      legal = here;
      complete = complete_of (record { setup = setup; history = end.history }) sound here up;
      grants = grants ∙ ap (λ (s : Setup). grants_of s end.history) same;
      horizon = horizon ∙ ap (λ (s : Setup). horizon_of s end.history) same;
    }

-- stations in step by a schedule are in step by the history that it was made of
pub in_step : (setup : Setup) (history listed : List Entry) (schedule : Schedule) (new shown : List Station)
    → schedule.grants.items ≡ grants_of setup history → listed ≡ history → shown ≡ new
    → AreInStep setup.world setup.loads schedule.grants.items setup.budget new
    → AreInStep setup.world setup.loads (grants_of setup listed) setup.budget shown
in_step setup history listed schedule new shown grants is same step =
    let In = λ (g : List Grant) (s : List Station). AreInStep setup.world setup.loads g setup.budget s in
    subst (λ (h : List Entry). In (grants_of setup h) shown) (sym is)
    (subst (λ (g : List Grant). In g shown) grants
    (subst (λ (s : List Station). In schedule.grants.items s) (sym same) step))

-- all stations of a platform are as many as before when they are in step
pub step_long : (world : World) (loads : List LoadName) (grants : List Grant) (slot : ℕ) (old new : List Station)
    → HaveRun world loads grants (map station_state old) → AreInStep world loads grants slot new
    → length new ≡ length old
step_long world loads grants slot old new run step =
    let number = λ (state : StationState). state.tile.number in
    let tile = λ (station : Station). let state : TileState = station.tile in state in
    let all = range_with_len 0 world.platform.tiles in
    let before : length old ≡ length all =
    sym (length-map old station_state) ∙ sym (length-map (map station_state old) number)
    ∙ ap (λ (l : List ℕ). length l) run.in_order in
    let after : length new ≡ length all =
    sym (length-map new tile) ∙ ap (λ (l : List TileState). length l) step.0
    ∙ length-map all (machine_at world loads grants slot).tile in
    after ∙ sym before

-- what was gathered, by other names of the counts
pub gathered_by : (shown list : List Station) (counted count listed tiles : ℕ) (hands : List (List Station))
    → shown ≡ list → list ≡ gathered counted listed 0 [] hands → counted ≡ count → listed ≡ tiles
    → shown ≡ gathered count tiles 0 [] hands
gathered_by shown list counted count listed tiles hands is from same all =
    is ∙ from ∙ ap (λ n. gathered n listed 0 [] hands) same ∙ ap (λ n. gathered count n 0 [] hands) all
