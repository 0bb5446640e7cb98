-- What is true of the channels of a well-formed bundle, each by its number.
use Rattle.std.proofs.Common.{◌≡◌, ℕ, ◌<◌, map, slice_get, Some, option_map, refl, ap, ◌∙◌, subst}
use Rattle.std.proofs.lemmas.Bool.Decides.{Decides-eqb}
use Rattle.std.proofs.lemmas.Map.Made.{AllPairs-from_IsDistinct}
use Rattle.std.proofs.lemmas.Option.{slice_get-map}
use Rattle.platform_model.specs.declared.platform.Platform.{Platform}
use Rattle.bundle_model.specs.declared.bundle.End.{End}
use Rattle.bundle_model.specs.declared.bundle.Part.{Part}
use Rattle.bundle_model.specs.declared.bundle.Bundle.{Bundle}
use Rattle.bundle_model.specs.declared.resource.Resource.{Resource}
use Rattle.bundle_model.specs.Resources.{resources_of}
use Rattle.bundle_model.specs.Ways.{Way, ways_of}
use Rattle.bundle_model.specs.WellFormed.{IsWellFormedPart, IsHeldEnd, IsWellFormedWay, IsWellFormed}
use Rattle.bundle_model.proofs.Keyed.{at_place, keyed_pairs}

-- the part at a place, and the channel of a number
pub part_at : (platform : Platform) (bundle : Bundle) (place : ℕ) (part : Part) → IsWellFormed platform bundle → slice_get bundle.parts place ≡ Some part → IsWellFormedPart platform part
part_at platform bundle place part formed there = at_place (IsWellFormedPart platform) bundle.parts place part formed.parts there

pub way_at : (platform : Platform) (bundle : Bundle) (number : ℕ) (way : Way) → IsWellFormed platform bundle → slice_get (ways_of bundle) number ≡ Some way → IsWellFormedWay platform bundle way
way_at platform bundle number way formed there = at_place (IsWellFormedWay platform bundle) (ways_of bundle) number way formed.ways there

-- one channel leaves a port, and one ends at it
pub one_source : (platform : Platform) (bundle : Bundle) (n m : ℕ) (one other : Way) → IsWellFormed platform bundle → slice_get (ways_of bundle) n ≡ Some one → slice_get (ways_of bundle) m ≡ Some other → one.from ≡ other.from → n ≡ m
one_source platform bundle n m one other formed at_n at_m same = keyed_pairs (λ (way : Way). way.from) (ways_of bundle) formed.sources n m one other at_n at_m same

pub one_target : (platform : Platform) (bundle : Bundle) (n m : ℕ) (one other : Way) → IsWellFormed platform bundle → slice_get (ways_of bundle) n ≡ Some one → slice_get (ways_of bundle) m ≡ Some other → one.to ≡ other.to → n ≡ m
one_target platform bundle n m one other formed at_n at_m same = keyed_pairs (λ (way : Way). way.to) (ways_of bundle) formed.targets n m one other at_n at_m same

-- one part stands on a tile
pub one_part : (platform : Platform) (bundle : Bundle) (i j : ℕ) (one other : Part) → IsWellFormed platform bundle → slice_get bundle.parts i ≡ Some one → slice_get bundle.parts j ≡ Some other → one.tile ≡ other.tile → i ≡ j
one_part platform bundle i j one other formed at_i at_j same =
    let tile : Part → ℕ = λ part. part.tile in
    let tiles = AllPairs-from_IsDistinct Decides-eqb (map tile bundle.parts) formed.apart in
    keyed_pairs (λ n. n) (map tile bundle.parts) tiles i j one.tile other.tile (slice_get-map tile bundle.parts i ∙ ap (option_map tile) at_i) (slice_get-map tile bundle.parts j ∙ ap (option_map tile) at_j) same

-- one port of a part has a number
pub one_port : (platform : Platform) (bundle : Bundle) (place i j port : ℕ) (part : Part) → IsWellFormed platform bundle → slice_get bundle.parts place ≡ Some part → slice_get part.ports i ≡ Some port → slice_get part.ports j ≡ Some port → i ≡ j
one_port platform bundle place i j port part formed there at_i at_j =
    keyed_pairs (λ n. n) part.ports (part_at platform bundle place part formed there).ports_differ i j port port at_i at_j refl

-- a resource stands at one place of the list
pub one_claim : (platform : Platform) (bundle : Bundle) (i j : ℕ) (one other : Resource) → IsWellFormed platform bundle → slice_get (resources_of platform bundle) i ≡ Some one → slice_get (resources_of platform bundle) j ≡ Some other → one ≡ other → i ≡ j
one_claim platform bundle i j one other formed at_i at_j same = keyed_pairs (λ resource. resource) (resources_of platform bundle) formed.distinct i j one other at_i at_j same

-- an end's tile is one of the platform's
pub end_on_tile : (platform : Platform) (bundle : Bundle) (end : End) → IsWellFormed platform bundle → IsHeldEnd bundle end → end.tile < platform.tiles
end_on_tile platform bundle end formed held = subst (λ tile. tile < platform.tiles) held.tile (part_at platform bundle held.place held.part formed held.there).on_tile
