use Rattle.std.proofs.Common.{rules, ap, ◌∙◌, sym, arith}
use Rattle.std.specs.List.{flat_map}
use Rattle.std.proofs.lemmas.List.{take_all}
use Rattle.std.proofs.lemmas.List.Folds.{flat_map-map}
use Rattle.tile_core.specs.declared.station.Station.{Station}
use Rattle.report_text.specs.State.{tile_text}
use Rattle.report_text.proofs.Numbers.{prints_item}
use Rattle.report_text.proofs.Prints.{prints_same}
use Rattle.report_text.proofs.state.put_state.Goals as goal

pub loop-station-preserved : goal.loop-station-preserved
loop-station-preserved g c = (
  prints_item (λ (station : Station). tile_text c.args.platform.now station.tile) c.args.stations.now
      c.loop-station.station-index _ (omega arith) c.station-item.is c.loop-station.invariant.0
      c.put_tile.ensures.printed,
  search rules,
)

pub returns-clause-printed : goal.returns-clause-printed
returns-clause-printed g c =
    prints_same _ _ _ _ _ _ _ _
    (ap (flat_map (λ (station : Station). tile_text c.args.platform.now station.tile))
    (take_all c.loop-station.station-index c.args.stations.now (omega arith))
    ∙ sym (flat_map-map (tile_text c.args.platform.now) (λ (station : Station). station.tile) c.args.stations.now))
    c.loop-station.invariant.0
