use Rattle.std.proofs.Common.{◌≡◌, map, sym, subst, ap, ◌∙◌}
use Rattle.std.specs.List.{All}
use Rattle.vep_manager.specs.declared.setup.Setup.{Setup}
use Rattle.vep_manager.specs.Manager.{ManagerState}
use Rattle.tile_core.specs.Station.{station_state, HasRun}
use Rattle.tile_workers.proofs.tests.groups.worked.Goals as goal

pub work-end-requires-clause-run : goal.work-end-requires-clause-run
work-end-requires-clause-run c =
    let same : c.settle.new.manager.setup ≡ c.args.setup.now =
    c.settle.ensures.setup ∙ ap (λ (state : ManagerState). state.setup) c.in_ok-manager.ensures.made in
    let grants = c.copy_since.new.into.grants.items in
    let states = map station_state c.in_ok-group.group.stations.items in
    subst (λ (s : Setup). All (HasRun c.args.setup.now.world s.loads grants) states) (sym same)
    (c.in_ok-group.ensures.run grants)
