use Rattle.tile_core.proofs.OneMore.{all_underway}
use Rattle.tile_core.proofs.tests.stations.build_by.Goals as goal

pub returns : goal.returns
returns c =
    all_underway c.args.world.now c.args.loads.now c.args.schedule.now c.in_ok-stations.stations.items c.requires.sound
    c.requires.apart c.requires.of_loads c.requires.bounded
    (c.in_ok-stations.ensures.run c.args.schedule.now.grants.items)
