-- The inputs of a tile, by what the links carry that lead to it.
use Rattle.std.proofs.Common.{◌≡◌, ℕ, ◌==◌, List, [], ◌∷◌, map, find, Contains, Option, Some, None, refl, ap₂}
use Rattle.std.specs.Option.{option_map_or}
use Rattle.std.specs.List.{range_with_len}
use Rattle.std.proofs.lemmas.Bool.{and_parts, eqb-true}
use Rattle.std.proofs.lemmas.Option.{slice_get_within, get_or_from_slice_get}
use Rattle.platform_model.specs.declared.link.Link.{Link}
use Rattle.bundle_model.proofs.Laws.{found_place}
use Rattle.lockstep.specs.Lockstep.{enters, inputs_of}

input_by : {Flit : Type 0} (idle : Flit) (one other : Link → Flit) (o : Option Link) → ((link : Link) → o ≡ Some link → one link ≡ other link) → option_map_or one o idle ≡ option_map_or other o idle
input_by idle one other None same = refl
input_by idle one other (Some link) same = same link refl

inputs_by : {Flit : Type 0} (idle : Flit) (links : List Link) (one other : Link → Flit) (tile : ℕ) → ((link : Link) → Contains links link → link.to ≡ tile → one link ≡ other link) → (inputs : List ℕ) → map (λ input. option_map_or one (find (enters tile input) links) idle) inputs ≡ map (λ input. option_map_or other (find (enters tile input) links) idle) inputs
inputs_by idle links one other tile same [] = refl
inputs_by idle links one other tile same (input ∷ inputs) =
    ap₂ (λ x xs. x ∷ xs)
    (input_by idle one other (find (enters tile input) links) (λ link is.
    let (place, there, passes) = found_place (enters tile input) links link is in
    let inside : Contains links link = (place, slice_get_within links place link there, get_or_from_slice_get links place link link there) in
    same link inside (eqb-true link.to tile (and_parts (link.to == tile) (link.input == input) passes).0)))
    (inputs_by idle links one other tile same inputs)

-- the inputs are the same where the links that enter the tile carry the same
pub inputs_same : {Flit : Type 0} (idle : Flit) (links : List Link) (one other : Link → Flit) (tile : ℕ) → ((link : Link) → Contains links link → link.to ≡ tile → one link ≡ other link) → inputs_of idle links one tile ≡ inputs_of idle links other tile
inputs_same idle links one other tile same = inputs_by idle links one other tile same (range_with_len 0 7)
