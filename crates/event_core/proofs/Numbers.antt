-- In step, tile number n stands at place n.
use Rattle.std.proofs.Common.{◌≡◌, ℕ, zero, suc, ◌+◌, ◌<◌, List, ◌∷◌, map, refl, ap₂, arith}
use Rattle.std.specs.List.{range_with_len}
use Rattle.bundle_model.specs.declared.world.World.{World}
use Rattle.bundle_model.specs.declared.world.LoadName.{LoadName}
use Rattle.bundle_model.specs.declared.world.Grant.{Grant}
use Rattle.bundle_model.specs.Grants.{IsApart}
use Rattle.bundle_model.specs.World.{IsSoundWorld, AreOfLoads}
use Rattle.tile_core.specs.Tile.{TileState}
use Rattle.tile_core.specs.Lockstep.{machine_at, tiles_at}
use Rattle.event_core.proofs.Settled.{IsSettled}
use Rattle.event_core.proofs.Machine.{machine_follows}

-- what is made of a range of numbers and has each number
numbered : (tile : ℕ → TileState) (from n : ℕ) → ((k : ℕ) → k < from + n → (tile k).number ≡ k) → map (λ t. t.number) (map tile (range_with_len from n)) ≡ range_with_len from n
numbered tile from zero is = refl
numbered tile from (suc n) is =
    ap₂ (λ (m : ℕ) (ms : List ℕ). m ∷ ms) (is from (omega arith)) (numbered tile (from + 1) n (λ k low. is k (omega arith)))

pub tiles_numbered : (world : World) (loads : List LoadName) (grants : List Grant) (slots : ℕ) → IsSoundWorld world loads → IsApart world grants → AreOfLoads loads grants → map (λ tile. tile.number) (tiles_at world loads grants slots) ≡ range_with_len 0 world.platform.tiles
tiles_numbered world loads grants slots sound apart of =
    let so : IsSettled world loads grants = record { sound = sound; apart = apart; of_loads = of } in
    numbered (machine_at world loads grants slots).tile 0 world.platform.tiles (λ k low. ((machine_follows world loads grants slots so).tiles k (omega arith)).number_is)
