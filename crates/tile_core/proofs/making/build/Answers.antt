use Rattle.std.proofs.lemmas.Result.{IfOk-weaker}
use Rattle.tile_core.proofs.FreshStations.{are_fresh, have_run}
use Rattle.tile_core.proofs.making.build.Goals as goal

pub returns-clause-fresh : goal.returns-clause-fresh
returns-clause-fresh c =
    IfOk-weaker c.joined_stations.result _ _
    (λ stations all. are_fresh c.args.world.now c.args.loads.now all.0 stations.items all.1 all.2) c.joined_stations.ensures

pub returns-clause-run : goal.returns-clause-run
returns-clause-run c =
    IfOk-weaker c.joined_stations.result _ _
    (λ stations all. have_run c.args.world.now c.args.loads.now all.0 stations.items all.1 all.2) c.joined_stations.ensures
