use Rattle.std.proofs.Common.{◌≡◌, List, ◌∙◌, sym, ap, subst}
use Rattle.vep_manager.specs.Manager.{ManagerState}
use Rattle.tile_core.specs.declared.station.Station.{Station}
use Rattle.serial_run.proofs.Ending.{AreReadyToFinish, can_finish, fresh_low}
use Rattle.serial_run.proofs.Trying.{up_to_horizon}
use Rattle.serial_run.proofs.tests.finish_after.Goals as goal

pub try_tiles-requires : goal.try_tiles-requires
try_tiles-requires g c =
    let setup = c.args.setup.now in
    let schedule = c.copy_since.new.into in
    let items = c.in_ok-stations.stations.items in
    let same : c.commit_all.new.manager.setup ≡ setup =
    c.commit_all.ensures.setup ∙ ap (λ (state : ManagerState). state.setup) c.in_ok-manager.ensures.made in
    let Ready = λ (stations : List Station). AreReadyToFinish setup schedule stations in
    let low = fresh_low setup.world c.as_slice.result.now setup.budget items c.in_ok-stations.ensures.fresh in
    let built : Ready items = record {
      run = rw (← c.as_slice.ensures) (c.in_ok-stations.ensures.run schedule.grants.items);
      low = low;
    } in
    up_to_horizon setup.world schedule setup.budget c.as_mut_slice-all.result.now
    (can_finish setup c.commit_all.new.manager schedule c.as_mut_slice-all.result.now c.requires (record {
      same = same;
      legal = c.commit_all.ensures.rounds.legal;
      complete = c.commit_all.ensures.rounds.complete;
      grants = c.copy_since.ensures.grants;
      horizon = c.copy_since.ensures.horizon;
    }) (subst Ready (sym c.as_mut_slice-all.ensures.value) built))
