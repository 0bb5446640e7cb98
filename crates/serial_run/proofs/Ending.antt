-- After the last command the tiles can go on to the budget.
use Rattle.std.proofs.Common.{◌≡◌, ℕ, ◌≤◌, List, map, get_or, All, refl, sym, ap₂, ◌∙◌, subst, arith}
use Rattle.std.specs.List.{range_with_len}
use Rattle.std.proofs.lemmas.List.Elements.{All-map}
use Rattle.bundle_model.specs.declared.world.Grant.{Grant}
use Rattle.bundle_model.specs.declared.world.Schedule.{Schedule}
use Rattle.tile_core.specs.declared.station.Station.{Station}
use Rattle.tile_core.specs.Tile.{TileState, fresh_tile}
use Rattle.tile_core.specs.Station.{station_state, HaveRun, AreFreshStations}
use Rattle.tile_core.proofs.Laws.{fresh_at}
use Rattle.vep_manager.specs.declared.setup.Setup.{Setup}
use Rattle.vep_manager.specs.Manager.{ManagerState}
use Rattle.vep_manager.specs.Setup.{IsSound}
use Rattle.vep_manager.specs.History.{grants_of, horizon_of}
use Rattle.vep_manager.specs.Legal.{IsLegal, IsComplete}
use Rattle.bundle_model.specs.declared.world.World.{World}
use Rattle.bundle_model.specs.declared.world.LoadName.{LoadName}
use Rattle.vep_manager.specs.declared.reply.Entry.{Entry}
use Rattle.serial_run.specs.Run.{CanFinish, FinishesInStep, AreInStep}
use Rattle.serial_run.proofs.Stepped.{all_unmap}
use Rattle.vep_manager.proofs.Laws.{sound_world, legal_apart, grants_of_loads, horizon_complete}

-- a state that all commands stand in, and a schedule that was made of it
pub record IsScheduled (setup : Setup) (state : ManagerState) (schedule : Schedule) : Type 0 where
  pub same : state.setup ≡ setup
  pub legal : IsLegal state.setup state.history
  pub complete : IsComplete state.setup state.history
  pub grants : schedule.grants.items ≡ grants_of state.setup state.history
  pub horizon : schedule.horizon ≡ horizon_of state.setup state.history

-- stations that have run by themselves, by the grants of a schedule, up to the budget at most
pub record AreReadyToFinish (setup : Setup) (schedule : Schedule) (stations : List Station) : Type 0 where
  pub run : HaveRun setup.world setup.loads schedule.grants.items (map station_state stations)
  pub low : All (λ station. station.tile.at ≤ setup.budget) stations

of_state : (state : ManagerState) (schedule : Schedule) (stations : List Station) → IsSound state.setup
    → IsScheduled state.setup state schedule → AreReadyToFinish state.setup schedule stations
    → CanFinish state.setup.world schedule state.setup.budget stations
of_state state schedule stations sound made ready =
    let reached : schedule.horizon ≡ state.setup.budget =
    made.horizon ∙ horizon_complete state.setup state.history made.complete in
    record {
      loads = state.setup.loads;
      sound = sound_world state.setup sound;
      run = ready.run;
      low = ready.low;
      apart = rw (made.grants) (legal_apart state.setup sound state.history made.legal);
      of_loads = rw (made.grants) (grants_of_loads state.setup sound state.history made.legal);
      reached = omega arith;
      bounded = rw reached sound.budget;
    }

pub can_finish : (setup : Setup) (state : ManagerState) (schedule : Schedule) (stations : List Station)
    → IsSound setup → IsScheduled setup state schedule → AreReadyToFinish setup schedule stations
    → CanFinish setup.world schedule setup.budget stations
can_finish setup state schedule stations sound made ready =
    let Can = λ (s : Setup). CanFinish s.world schedule s.budget stations in
    let Ready = λ (s : Setup). AreReadyToFinish s schedule stations in
    let here : IsScheduled state.setup state schedule = record {
      same = refl;
      legal = made.legal;
      complete = made.complete;
      grants = made.grants;
      horizon = made.horizon;
    } in
    subst Can made.same (of_state state schedule stations (rw (made.same) sound) here
    (rw (made.same) ready))

-- stations before their first slot are at slot 0
pub fresh_low : (world : World) (loads : List LoadName) (until : ℕ) (stations : List Station)
    → AreFreshStations world loads stations
    → All (λ station. station.tile.at ≤ until) stations
fresh_low world loads until stations fresh =
    let Low = λ (tile : TileState). tile.at ≤ until in
    all_unmap Low (λ (station : Station). station.tile) stations
    (subst (All Low) (sym fresh.tiles) (All-map Low (fresh_tile world loads) (range_with_len 0 world.platform.tiles)
    (λ k d inside. let at = fresh_at world loads (get_or (range_with_len 0 world.platform.tiles) k d) in
    omega (arith, at))))

-- the stations that a run ends with are in step by the grants of its history
pub ends_in_step : (setup : Setup) (state : ManagerState) (schedule : Schedule) (old new stations : List Station)
    (history : List Entry)
    → state.setup ≡ setup → schedule.grants.items ≡ grants_of state.setup state.history → history ≡ state.history
    → stations ≡ new
    → FinishesInStep setup.world schedule.grants.items setup.budget old new
    → HaveRun setup.world setup.loads schedule.grants.items (map station_state old)
    → AreInStep setup.world setup.loads (grants_of setup history) setup.budget stations
ends_in_step setup state schedule old new stations history same grants history_is stations_are finishes run =
    let granted : schedule.grants.items ≡ grants_of setup history =
    grants ∙ ap₂ grants_of same (sym history_is) in
    let InStep = λ (items : List Grant). AreInStep setup.world setup.loads items setup.budget new in
    let At = λ (ended : List Station). AreInStep setup.world setup.loads (grants_of setup history) setup.budget ended in
    subst At (sym stations_are) (subst InStep granted (finishes setup.loads run))
