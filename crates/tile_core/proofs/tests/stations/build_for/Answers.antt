use Rattle.std.proofs.Common.{◌≡◌, refl}
use Rattle.bundle_model.specs.declared.world.LoadName.{LoadName}
use Rattle.tile_core.proofs.Pairs.{two_of_loads}
use Rattle.tile_core.proofs.tests.stations.build_for.Goals as goal

pub build_by-requires-clause-of_loads : goal.build_by-requires-clause-of_loads
build_by-requires-clause-of_loads g c =
    let one : LoadName = record { label = record { session = 1; load = 1 }; bundle = 0 } in
    let other : LoadName = record { label = record { session = 1; load = 2 }; bundle = 1 } in
    let first : one ≡ record { label = c.args.first.label; bundle = c.args.first.bundle } = cc in
    let second : other ≡ record { label = c.args.second.label; bundle = c.args.second.bundle } = cc in
    two_of_loads _ one other c.args.first c.args.second c.in_ok-schedule.schedule.grants.items refl
    c.in_ok-schedule.ensures.grants first second
