-- A tile before its first slot has the sizes of its platform.
use Rattle.std.proofs.Common.{◌≡◌, ℕ, List, refl}
use Rattle.std.proofs.lemmas.List.{length-replicate}
use Rattle.std.proofs.lemmas.List.Elements.{All-replicate}
use Rattle.bundle_model.specs.declared.world.World.{World}
use Rattle.bundle_model.specs.declared.world.LoadName.{LoadName}
use Rattle.tdm_network.specs.Rows.{free_row}
use Rattle.tile_core.specs.Tile.{fresh_tile, free_sized}
use Rattle.report_text.specs.inner.Made.{IsMade}

pub fresh_is_made : (world : World) (loads : List LoadName) (number : ℕ)
    → IsMade world.platform (fresh_tile world loads number)
unfolding fresh_tile
fresh_is_made world loads number = record {
  memory = length-replicate world.platform.mem_bytes 0;
  ports = length-replicate world.platform.ports (free_sized world.platform.queue);
  queues = All-replicate (λ port. port.queue ≡ world.platform.queue) world.platform.ports
      (free_sized world.platform.queue) refl;
  tables = length-replicate world.platform.table_slots free_row;
  outputs = refl;
}
