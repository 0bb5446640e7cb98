use Rattle.std.proofs.Common.{◌≡◌, List, length, map, subst, vec_len, arith}
use Rattle.bundle_model.specs.declared.world.LoadName.{LoadName}
use Rattle.bundle_model.specs.declared.world.Grant.{Grant}
use Rattle.tile_core.specs.Station.{AreFreshStations, HaveRun, station_state}
use Rattle.live_run.proofs.Ending.{built_first, built_long, none_first, fresh_crew}
use Rattle.live_run.proofs.crew.deal_out.Goals as goal

pub returns : goal.returns
returns c =
    let setup = c.args.setup.now in
    let world = setup.world in
    let loads = setup.loads in
    let built = c.in_ok-stations.stations.items in
    let listed : c.as_slice.result.now ≡ loads = c.as_slice.ensures in
    let fresh : AreFreshStations world loads built =
    subst (λ (l : List LoadName). AreFreshStations world l built) listed c.in_ok-stations.ensures.fresh in
    let run : (grants : List Grant) → HaveRun world loads grants (map station_state built) =
    λ grants. subst (λ (l : List LoadName). HaveRun world l grants (map station_state built)) listed
    (c.in_ok-stations.ensures.run grants) in
    let dealt = c.in_ok-deal.ensures in
    let crew = c.deal.new.crew in
    let long = built_long world loads built fresh in
    let tiles : vec_len c.in_ok-stations.stations ≡ world.platform.tiles = omega (arith, long) in
    let hired = c.in_ok-crew.ensures in
    let count = dealt.count in
    let same : vec_len c.in_ok-crew.crew ≡ length crew.items = omega (arith, count) in
    let least = c.min-count.ensures in
    let hired_count = hired.count in
    let some = c.requires.some in
    record {
      built = built;
      run = run;
      dealt = rw (← same, ← tiles) dealt.dealt;
      fresh = fresh_crew setup crew.items
          (rw (dealt.schedules, ← c.requires.same) hired.blank)
          (dealt.first world loads (built_first world loads built fresh run) (none_first world loads c.in_ok-crew.crew.items hired.free));
      some = omega (arith, same);
      few = omega (arith, same);
      empty = dealt.empty;
      room = omega (arith, dealt.room, tiles);
    }
