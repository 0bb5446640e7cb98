-- A tile before its first slot was made for its world and loads.
use Rattle.std.proofs.Common.{◌≡◌, ℕ, ◌<◌, ◌≤◌, List, None, refl, arith}
use Rattle.std.proofs.lemmas.List.{length-map, length-replicate}
use Rattle.std.proofs.lemmas.List.Elements.{All-replicate}
use Rattle.bundle_model.specs.declared.world.World.{World}
use Rattle.bundle_model.specs.declared.world.LoadName.{LoadName}
use Rattle.ni_port.specs.SizedPort.{SizedPort}
use Rattle.tile_core.specs.Tile.{loads_on, fresh_log, free_sized, fresh_tile}
use Rattle.tile_core.specs.Fit.{IsMadeFor}

pub fresh_made : (world : World) (loads : List LoadName) (number : ℕ) → number < world.platform.tiles → IsMadeFor world loads (fresh_tile world loads number)
unfolding fresh_tile
fresh_made world loads number exists = record {
  number = exists;
  frame = refl;
  owners = length-replicate world.platform.partition_slots None;
  size = length-replicate world.platform.mem_bytes 0;
  places = length-replicate world.platform.partition_slots None;
  its_loads = refl;
  logs = length-map (loads_on world number loads) (fresh_log world number);
  ports = length-replicate world.platform.ports (free_sized world.platform.queue);
  queues = All-replicate (λ (port : SizedPort). port.queue ≡ world.platform.queue) world.platform.ports (free_sized world.platform.queue) refl;
  outputs = length-replicate {A = ℕ} 7 0;
  counts = All-replicate (λ (count : ℕ). count ≤ 0) 7 0 (omega arith);
}
