use Rattle.std.proofs.Common.{◌≡◌, ◌∙◌, refl, sym, ap, subst, length, map, List, arith}
use Rattle.vep_manager.specs.Manager.{ManagerState}
use Rattle.vep_manager.proofs.Laws.{sound_world}
use Rattle.tile_core.specs.declared.station.Station.{Station}
use Rattle.tile_core.specs.Station.{station_state, HaveRun}
use Rattle.vep_manager.specs.History.{grants_of}
use Rattle.serial_run.specs.Run.{AreInStep}
use Rattle.serial_run.proofs.Ending.{AreReadyToFinish, can_finish, fresh_low, ends_in_step}
use Rattle.serial_run.proofs.Parting.{refilled}
use Rattle.serial_run.proofs.serial.serial_all.Goals as goal

pub overflow_cast-len : goal.overflow_cast-len
overflow_cast-len c = let few = (sound_world c.args.setup.now c.requires).few in omega arith

pub build-requires : goal.build-requires
build-requires c = rw c.as_slice.ensures (sound_world c.args.setup.now c.requires)

pub finish-requires : goal.finish-requires
finish-requires c =
    let setup = c.args.setup.now in
    let same : c.commit_all.new.manager.setup ≡ setup =
    c.commit_all.ensures.setup ∙ ap (λ (state : ManagerState). state.setup) c.in_ok-manager.ensures.made in
    let Ready = λ (stations : List Station). AreReadyToFinish setup c.copy_since.new.into stations in
    let built : Ready c.in_ok-stations.stations.items = record {
      run = rw (← c.as_slice.ensures) (c.in_ok-stations.ensures.run c.copy_since.new.into.grants.items);
      low = fresh_low setup.world c.as_slice.result.now setup.budget c.in_ok-stations.stations.items
          c.in_ok-stations.ensures.fresh;
    } in
    can_finish setup c.commit_all.new.manager c.copy_since.new.into c.as_mut_slice.result.now c.requires (record {
      same = same;
      legal = c.commit_all.ensures.rounds.legal;
      complete = c.commit_all.ensures.rounds.complete;
      grants = c.copy_since.ensures.grants;
      horizon = c.copy_since.ensures.horizon;
    }) (subst Ready (sym c.as_mut_slice.ensures.value) built)

-- the stations that are handed out are in step
at_end : (c : goal.After-drop-schedule-2)
    → AreInStep c.args.setup.now.world c.args.setup.now.loads (grants_of c.args.setup.now c.from_vec.result)
    c.args.setup.now.budget c.from_vec-2.result
at_end c =
    let setup = c.args.setup.now in
    let same : c.commit_all.new.manager.setup ≡ setup =
    c.commit_all.ensures.setup ∙ ap (λ (state : ManagerState). state.setup) c.in_ok-manager.ensures.made in
    let vec = c.in_ok-stations.stations in
    let new = c.finish.new.stations in
    let grants = c.copy_since.new.into.grants.items in
    let Run = λ (stations : List Station). HaveRun setup.world setup.loads grants (map station_state stations) in
    let built : Run vec.items = rw (← c.as_slice.ensures) (c.in_ok-stations.ensures.run grants) in
    let written : c.from_vec-2.result ≡ new =
    c.from_vec-2.ensures ∙ refilled vec.len new vec.items new refl
    (c.finish.auto.stations ∙ ap length c.as_mut_slice.ensures.value) vec.ok.0 in
    ends_in_step setup c.commit_all.new.manager c.copy_since.new.into c.as_mut_slice.result.now new
    c.from_vec-2.result c.from_vec.result same
    c.copy_since.ensures.grants (c.from_vec.ensures ∙ c.into_history.ensures.history) written c.finish.ensures
    (subst Run (sym c.as_mut_slice.ensures.value) built)

pub returns-clause-tiles : goal.returns-clause-tiles
returns-clause-tiles c = (at_end c).0

pub returns-clause-rings : goal.returns-clause-rings
returns-clause-rings c = (at_end c).1
