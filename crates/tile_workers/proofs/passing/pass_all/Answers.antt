use Rattle.std.proofs.Common.{sym, subst, arith}
use Rattle.tile_core.specs.declared.station.Station.{Station}
use Rattle.tile_core.specs.Fit.{IsUnderway}
use Rattle.tile_workers.proofs.Passes.{next_same, more_went, more_not}
use Rattle.tile_workers.proofs.passing.pass_all.Goals as goal
use Rattle.tile_workers.proofs.passing.pass_all.Goals.{then-pass_one, else-pass_one}

pub pass_one-requires : goal.pass_one-requires
pass_one-requires g c =
    let old = c.args.stations.now in
    let new = c.loop-station.stations in
    let place = c.loop-station.station-index in
    let d = c.station-item.result in
    let before = c.loop-station.invariant in
    subst (λ (station : Station). IsUnderway c.args.world.now c.args.schedule.now station.tile)
    (sym (next_same old new place d (omega arith) before.as_many before.rest)) (c.requires place d (omega arith))

pub loop-station-preserved : goal.loop-station-preserved
loop-station-preserved g c =
    let world = c.args.world.now in
    let schedule = c.args.schedule.now in
    let at = c.loop-station in
    let x = c.station-item.result in
    let y = c.pass_one.new.station in
    elim c.if-pass_one.branch [
      | then-pass_one w ↦
          rw w.moved-is (more_went world schedule c.args.until at.moved c.pass_one.result at.station-index
          c.args.stations.now at.stations x y w.if-pass_one.true (omega arith) c.pass_one.ensures at.invariant)
      | else-pass_one w ↦
          rw w.moved-is (more_not world schedule c.args.until at.moved c.pass_one.result at.station-index
          c.args.stations.now at.stations x y w.if-pass_one.false (omega arith) c.pass_one.ensures at.invariant)
    ]
