use Rattle.std.proofs.Common.{◌≡◌, List, [], length, map, sym, subst, ◌∙◌, vec_len, arith}
use Rattle.std.proofs.lemmas.List.{take_at}
use Rattle.vep_manager.specs.declared.reply.Entry.{Entry}
use Rattle.vep_manager.specs.Manager.{ManagerState}
use Rattle.vep_manager.specs.Legal.{IsComplete}
use Rattle.serial_run.proofs.Laws.{can_finish}
use Rattle.live_run.specs.inner.Workers.{hand}
use Rattle.live_run.proofs.Ending.{ready, scheduled, worked_long, step_long, in_step, gathered_by}
use Rattle.live_run.proofs.run.live.Goals as goal

pub gather-requires-clause-some : goal.gather-requires-clause-some
gather-requires-clause-some g c =
    let long = worked_long c.args.setup.now c.in_ok-manager.manager.history c.in_ok-crew.field-0.crew.items
    c.in_ok-manager.crew.items c.in_ok-manager.ensures.worked in
    let some = c.in_ok-crew.ensures.some in
    omega (arith, long, some)

pub finish-requires : goal.finish-requires
finish-requires g c =
    let setup = c.args.setup.now in
    let end : ManagerState = c.in_ok-manager.manager in
    let done = c.in_ok-manager.ensures in
    let copied = c.copy_since.ensures in
    let schedule = c.copy_since.new.into in
    let made = scheduled setup end schedule c.requires.sound done.setup copied.legal done.used_up copied.grants copied.horizon in
    let crew = c.in_ok-crew.field-0.crew in
    let worked = c.in_ok-manager.crew in
    let tiles = setup.world.platform.tiles in
    let stations = c.as_mut_slice.result.now in
    let long = worked_long setup end.history crew.items worked.items done.worked in
    let count : vec_len worked ≡ length crew.items = omega (arith, long) in
    let gathers = gathered_by stations c.gather.new.stations.items (vec_len worked) (length crew.items) c.from-tiles.result tiles
    (map hand worked.items) c.as_mut_slice.ensures.value c.gather.ensures count c.from-tiles.ensures in
    let brought = ready setup end.history schedule crew.items worked.items c.in_ok-crew.field-0.stations stations
    c.requires.sound made.legal c.in_ok-crew.ensures done.worked gathers made.grants in
    can_finish setup (record { setup = setup; history = end.history }) schedule stations c.requires.sound made brought

pub returns-clause-complete : goal.returns-clause-complete
returns-clause-complete g c =
    let setup = c.args.setup.now in
    let end : ManagerState = c.in_ok-manager.manager in
    let done = c.in_ok-manager.ensures in
    let copied = c.copy_since.ensures in
    let schedule = c.copy_since.new.into in
    let made = scheduled setup end schedule c.requires.sound done.setup copied.legal done.used_up copied.grants copied.horizon in
    let listed : c.from_vec.result ≡ end.history = c.from_vec.ensures ∙ c.into_history-history.ensures.history in
    subst (λ (l : List Entry). IsComplete setup l) (sym listed) made.complete

pub returns-clause-tiles : goal.returns-clause-tiles
returns-clause-tiles g c =
    let setup = c.args.setup.now in
    let end : ManagerState = c.in_ok-manager.manager in
    let done = c.in_ok-manager.ensures in
    let copied = c.copy_since.ensures in
    let schedule = c.copy_since.new.into in
    let made = scheduled setup end schedule c.requires.sound done.setup copied.legal done.used_up copied.grants copied.horizon in
    let crew = c.in_ok-crew.field-0.crew in
    let worked = c.in_ok-manager.crew in
    let tiles = setup.world.platform.tiles in
    let stations = c.as_mut_slice.result.now in
    let long = worked_long setup end.history crew.items worked.items done.worked in
    let count : vec_len worked ≡ length crew.items = omega (arith, long) in
    let gathers = gathered_by stations c.gather.new.stations.items (vec_len worked) (length crew.items) c.from-tiles.result tiles
    (map hand worked.items) c.as_mut_slice.ensures.value c.gather.ensures count c.from-tiles.ensures in
    let brought = ready setup end.history schedule crew.items worked.items c.in_ok-crew.field-0.stations stations
    c.requires.sound made.legal c.in_ok-crew.ensures done.worked gathers made.grants in
    let listed : c.from_vec.result ≡ end.history = c.from_vec.ensures ∙ c.into_history-history.ensures.history in
    let new = c.finish.new.stations in
    let ended = c.finish.ensures setup.loads brought.run in
    let length_kept = step_long setup.world setup.loads schedule.grants.items setup.budget stations new brought.run ended in
    let shown : c.from_vec-2.result ≡ new =
    c.from_vec-2.ensures ∙ take_at new _ _ (length_kept ∙ c.as_mut_slice.ensures.len) in
    let step = in_step setup end.history c.from_vec.result schedule new c.from_vec-2.result made.grants listed shown ended in
    step.0

pub returns-clause-rings : goal.returns-clause-rings
returns-clause-rings g c =
    let setup = c.args.setup.now in
    let end : ManagerState = c.in_ok-manager.manager in
    let done = c.in_ok-manager.ensures in
    let copied = c.copy_since.ensures in
    let schedule = c.copy_since.new.into in
    let made = scheduled setup end schedule c.requires.sound done.setup copied.legal done.used_up copied.grants copied.horizon in
    let crew = c.in_ok-crew.field-0.crew in
    let worked = c.in_ok-manager.crew in
    let tiles = setup.world.platform.tiles in
    let stations = c.as_mut_slice.result.now in
    let long = worked_long setup end.history crew.items worked.items done.worked in
    let count : vec_len worked ≡ length crew.items = omega (arith, long) in
    let gathers = gathered_by stations c.gather.new.stations.items (vec_len worked) (length crew.items) c.from-tiles.result tiles
    (map hand worked.items) c.as_mut_slice.ensures.value c.gather.ensures count c.from-tiles.ensures in
    let brought = ready setup end.history schedule crew.items worked.items c.in_ok-crew.field-0.stations stations
    c.requires.sound made.legal c.in_ok-crew.ensures done.worked gathers made.grants in
    let listed : c.from_vec.result ≡ end.history = c.from_vec.ensures ∙ c.into_history-history.ensures.history in
    let new = c.finish.new.stations in
    let ended = c.finish.ensures setup.loads brought.run in
    let length_kept = step_long setup.world setup.loads schedule.grants.items setup.budget stations new brought.run ended in
    let shown : c.from_vec-2.result ≡ new =
    c.from_vec-2.ensures ∙ take_at new _ _ (length_kept ∙ c.as_mut_slice.ensures.len) in
    let step = in_step setup end.history c.from_vec.result schedule new c.from_vec-2.result made.grants listed shown ended in
    step.1
