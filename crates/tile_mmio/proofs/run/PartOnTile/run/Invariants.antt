use Rattle.std.proofs.Common.{◌≡◌, ◌≤◌, ◌-◌}
use Rattle.soc_base.specs.Steps.{after_steps}
use Rattle.tile_memory.specs.Bytes.{IsInside}
use Rattle.part_model.specs.Part.{part_cycle}
use Rattle.tile_mmio.specs.Ports.{AreOwn}
use Rattle.tile_mmio.specs.Part.{view_of, rest_of}
use Rattle.tile_mmio.proofs.run.PartOnTile.run.Given as goal

abbrev pub invariant-loop-done : goal.invariant-loop-done
invariant-loop-done l = record {
  view : view_of l.self ≡ after_steps (part_cycle l.costs l.place) l.cycle l.done (view_of l.fn.self);
  rest : rest_of l.self ≡ rest_of l.fn.self;
  inside : IsInside l.self.memory.now l.self.region;
  own : AreOwn l.self.ports.now l.self.map.now;
  most : l.done ≤ l.count;
}

abbrev pub decreases-loop-done : goal.decreases-loop-done
decreases-loop-done l = l.count - l.done
