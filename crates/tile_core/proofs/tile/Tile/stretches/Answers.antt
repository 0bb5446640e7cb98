use Rattle.tile_core.proofs.Stretches.{sound_rows, Cut, IsCut, least_of, tile_frame, second_slots, three_stretches}
use Rattle.std.proofs.Common.{ℕ, ◌+◌, ◌-◌, ap₂, ◌∙◌}
use Rattle.tile_core.specs.Tile.{load_part}
use Rattle.tile_core.specs.inner.Stretch.{ran_held}
use Rattle.tile_core.proofs.tile.Tile.stretches.Goals as goal

pub run_held-requires-clause-tile : goal.run_held-requires-clause-tile
run_held-requires-clause-tile c =
    sound_rows c.args.world.now c.args.self.now c.rows.new.self c.args.at.served c.args.at.offset c.min-first.result c.requires.tile c.rows.ensures

pub rows-requires-2 : goal.rows-requires-2
rows-requires-2 c =
    let world = c.args.world.now in
    let frame = c.args.frame.now in
    let cut : Cut = record { from = c.args.from; count = c.args.count; rows = c.min-first.result; held = c.min-second.result; at = c.args.at; next = c.place_after-next.result } in
    let is_cut : IsCut frame cut = record {
      frame = tile_frame world c.args.self.now frame c.requires.tile c.requires.frame;
      short = c.requires.short;
      at_is = c.requires.place;
      next_is = c.place_after-next.ensures.after c.args.from c.requires.place;
      first = least_of cut.rows cut.count c.kernel_left.result _ c.min-first.ensures c.kernel_left.ensures;
      second = least_of cut.held (cut.count - cut.rows) c.instance_left.result _ c.min-second.ensures c.instance_left.ensures;
    } in
    let ran = c.run_held.ensures ∙ ap₂ (λ (one two : ℕ). ran_held (load_part world c.rows.new.self) world.platform.costs (c.args.from + one) two c.rows.new.self c.rows.new.self.kernel.held) c.from.ensures c.from-2.ensures in
    second_slots world frame cut c.args.self.now c.rows.new.self c.run_held.new.self c.place_after-last.result
    (record { sound = c.requires.tile; times = c.requires.frame; is_cut = is_cut; first = c.rows.ensures; second = ran })
    c.place_after-last.ensures.valid

pub returns : goal.returns
returns c =
    let world = c.args.world.now in
    let frame = c.args.frame.now in
    let cut : Cut = record { from = c.args.from; count = c.args.count; rows = c.min-first.result; held = c.min-second.result; at = c.args.at; next = c.place_after-next.result } in
    let next_is = c.place_after-next.ensures.after c.args.from c.requires.place in
    let is_cut : IsCut frame cut = record {
      frame = tile_frame world c.args.self.now frame c.requires.tile c.requires.frame;
      short = c.requires.short;
      at_is = c.requires.place;
      next_is = next_is;
      first = least_of cut.rows cut.count c.kernel_left.result _ c.min-first.ensures c.kernel_left.ensures;
      second = least_of cut.held (cut.count - cut.rows) c.instance_left.result _ c.min-second.ensures c.instance_left.ensures;
    } in
    let ran = c.run_held.ensures ∙ ap₂ (λ (one two : ℕ). ran_held (load_part world c.rows.new.self) world.platform.costs (c.args.from + one) two c.rows.new.self c.rows.new.self.kernel.held) c.from.ensures c.from-2.ensures in
    three_stretches world frame cut c.args.self.now c.rows.new.self c.run_held.new.self c.rows-2.new.self c.place_after-last.result
    (record { sound = c.requires.tile; times = c.requires.frame; is_cut = is_cut; first = c.rows.ensures; second = ran })
    (c.place_after-last.ensures.after _ next_is) c.rows-2.ensures
