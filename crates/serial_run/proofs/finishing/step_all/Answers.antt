use Rattle.std.proofs.Common.{◌≡◌, ◌∙◌, sym, subst, arith}
use Rattle.std.proofs.lemmas.List.{length-set}
use Rattle.tile_core.specs.declared.station.Station.{Station}
use Rattle.tile_core.specs.Fit.{IsUnderway}
use Rattle.tile_core.specs.Turns.{CanAdvance}
use Rattle.serial_run.specs.inner.Going.{Steps}
use Rattle.serial_run.proofs.Turning.{rest_more, next_same, zip_more}
use Rattle.serial_run.proofs.finishing.step_all.Goals as goal

pub step-requires-clause-can : goal.step-requires-clause-can
step-requires-clause-can c =
    let (long, rest, steps) = c.loop-station.invariant in
    let i = c.loop-station.station-index in
    let d = c.station-item.result in
    let Can = λ (s : Station). s.tile.at ≡ c.args.slot → CanAdvance s in
    subst Can (sym (next_same c.args.stations.now c.loop-station.stations i d (omega arith) long rest))
    (c.requires.can i d (omega arith))

pub step-requires-clause-underway : goal.step-requires-clause-underway
step-requires-clause-underway c =
    let (long, rest, steps) = c.loop-station.invariant in
    let i = c.loop-station.station-index in
    let d = c.station-item.result in
    let Under = λ (s : Station). IsUnderway c.args.world.now c.args.schedule.now s.tile in
    subst Under (sym (next_same c.args.stations.now c.loop-station.stations i d (omega arith) long rest))
    (c.requires.underway i d (omega arith))

pub loop-station-preserved : goal.loop-station-preserved
loop-station-preserved c =
    let (long, rest, steps) = c.loop-station.invariant in
    let old = c.args.stations.now in
    let now = c.loop-station.stations in
    let i = c.loop-station.station-index in
    let d = c.station-item.result in
    let new = c.step.new.station in
    let Moves = Steps c.args.world.now c.args.schedule.now c.args.slot in (
      length-set now i new ∙ long,
      rest_more old now i new rest,
      zip_more Moves old now i d new (omega arith) long rest steps c.step.ensures,
    )
