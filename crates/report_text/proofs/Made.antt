-- At the end of a run every tile has the sizes of its platform.
use Rattle.std.proofs.Common.{◌≡◌, ℕ, ◌<◌, List, get_or, All, sym, subst, arith}
use Rattle.std.specs.List.{range_with_len}
use Rattle.std.proofs.lemmas.List.Elements.{All-map}
use Rattle.std.proofs.lemmas.List.FromFn.{get_or-range_with_len, length-range_with_len}
use Rattle.bundle_model.specs.declared.world.World.{World}
use Rattle.bundle_model.specs.declared.world.LoadName.{LoadName}
use Rattle.bundle_model.specs.declared.world.Grant.{Grant}
use Rattle.tile_core.specs.Tile.{TileState}
use Rattle.tile_core.specs.Lockstep.{machine_at, tiles_at}
use Rattle.vep_manager.specs.declared.setup.Setup.{Setup}
use Rattle.vep_manager.specs.Setup.{IsSound}
use Rattle.vep_manager.specs.History.{grants_of}
use Rattle.vep_manager.specs.Legal.{IsLegal}
use Rattle.serial_run.specs.declared.end.RunEnd.{RunEnd}
use Rattle.serial_run.specs.Run.{EndsInStep}
use Rattle.report_text.specs.inner.Made.{AreMade, IsMade}
use Rattle.vep_manager.proofs.Laws.{sound_world, legal_apart, grants_of_loads}
use Rattle.event_core.proofs.Laws.{IsSettled, FollowsOn, machine_follows}
use Rattle.report_text.proofs.Alone.{All-unmap}

all_numbers : (P : ℕ → Type 0) (count : ℕ) → ((n : ℕ) → n < count → P n) → All P (range_with_len 0 count)
all_numbers P count each =
    λ k d inside.
    let low : k < count = omega (arith, length-range_with_len 0 count) in
    let is : k ≡ get_or (range_with_len 0 count) k d = omega (arith, get_or-range_with_len 0 count k d low) in
    subst P is (each k low)

made_of : (world : World) (loads : List LoadName) (grants : List Grant) (slot number : ℕ) (tile : TileState)
    → FollowsOn world loads grants slot number tile → IsMade world.platform tile
made_of world loads grants slot number tile follows = record {
  memory = follows.made.size;
  ports = follows.made.ports;
  queues = follows.made.queues;
  tables = follows.fits.tables.laid_out.slots;
  outputs = follows.made.outputs;
}

made_at : (world : World) (loads : List LoadName) (grants : List Grant) (slots : ℕ) → IsSettled world loads grants
    → All (IsMade world.platform) (tiles_at world loads grants slots)
made_at world loads grants slots so =
    let machine = machine_at world loads grants slots in
    All-map (IsMade world.platform) machine.tile (range_with_len 0 world.platform.tiles)
    (all_numbers (λ n. IsMade world.platform (machine.tile n)) world.platform.tiles
    (λ n low. made_of world loads grants slots n (machine.tile n)
    ((machine_follows world loads grants slots so).tiles n low)))

pub are_made : (setup : Setup) (end : RunEnd) → IsSound setup → IsLegal setup end.history → EndsInStep setup end
    → AreMade setup.world.platform end.stations
are_made setup end sound legal in_step =
    let grants = grants_of setup end.history in
    let so : IsSettled setup.world setup.loads grants = record {
      sound = sound_world setup sound;
      apart = legal_apart setup sound end.history legal;
      of_loads = grants_of_loads setup sound end.history legal;
    } in
    All-unmap (IsMade setup.world.platform) (λ station. station.tile) end.stations
    (subst (All (IsMade setup.world.platform)) (sym in_step)
    (made_at setup.world setup.loads grants setup.budget so))
