use Rattle.std.proofs.Common.{◌∙◌, ap, arith, sym}
use Rattle.tile_core.specs.Tile.{TileState}
use Rattle.tile_core.proofs.Laws.{slot_at}
use Rattle.serial_run.proofs.Stepped.{raised_once}
use Rattle.serial_run.proofs.finishing.step.Goals as goal

pub returns-then-at-slot : goal.returns-then-at-slot
returns-then-at-slot c = record {
  ends = c.advance.ensures.ends;
  lines = c.advance.ensures.lines;
  underway = c.advance.ensures.underway;
  run = c.advance.ensures.run;
  at = ap (λ (tile : TileState). tile.at) c.advance.ensures.slot.tile
      ∙ slot_at c.args.world.now c.args.schedule.now.grants.items _ c.args.station.now.tile
      ∙ sym (raised_once c.args.slot c.args.station.now.tile.at (omega arith));
}
