-- What a bundle is that breaks no rule on a platform.
use Rattle.std.specs.Prelude.{◌≡◌, ◌≢◌, ℕ, suc, ◌+◌, ◌*◌, ◌-◌, ◌%◌, ◌^◌, ◌<◌, ◌≤◌, nat_eq, List, [], map, length, slice_get, Some, All, AllPairs}
use Rattle.std.specs.List.{IsDistinct}
use Rattle.platform_model.specs.declared.link.Link.{Link}
use Rattle.platform_model.specs.declared.platform.Platform.{Platform}
use Rattle.soc_base.specs.Slots.{slots_of}
use Rattle.soc_base.specs.declared.limits.TheConstants.{MOST_ROWS, MOST_PATH, MOST_RESOURCES}
use Rattle.bundle_model.specs.declared.bundle.End.{End}
use Rattle.bundle_model.specs.declared.bundle.Part.{Part}
use Rattle.bundle_model.specs.declared.bundle.Bundle.{Bundle}
use Rattle.bundle_model.specs.Resources.{resources_of}
use Rattle.bundle_model.specs.Ways.{Way, ways_of}

-- what is true of each part of such a bundle
pub record IsWellFormedPart (platform : Platform) (part : Part) : Type 0 where
  pub on_tile : part.tile < platform.tiles
  pub some_slot : slots_of part.slots ≢ []
  pub slots_exist : All (λ slot. slot < platform.partition_slots) (slots_of part.slots)
  pub slots_below : part.slots < 2 ^ platform.partition_slots
  pub base_aligned : part.region.base % 16 ≡ 0
  pub len_aligned : part.region.len % 16 ≡ 0
  pub least_len : 16 ≤ part.region.len
  pub in_memory : part.region.base + part.region.len ≤ platform.mem_bytes
  pub image_fits : 4 * length part.image ≤ part.region.len
  pub entry_aligned : part.entry % 4 ≡ 0
  pub entry_inside : part.entry + 4 ≤ part.region.len
  pub trace_fits : part.trace ≤ MOST_ROWS
  pub kinds_exist : part.kinds < 16
  pub ports_exist : All (λ port. port < platform.ports) part.ports
  pub ports_differ : AllPairs (λ one other. one ≢ other) part.ports

-- a part of the bundle has the port of an end
pub record IsHeldEnd (bundle : Bundle) (end : End) : Type 0 where
  pub place : ℕ
  pub part : Part
  pub there : slice_get bundle.parts place ≡ Some part
  pub tile : part.tile ≡ end.tile
  pub index : ℕ
  pub port : slice_get part.ports index ≡ Some end.port

-- a channel of the bundle leaves the port of an end
pub record IsLeft (bundle : Bundle) (end : End) : Type 0 where
  pub number : ℕ
  pub way : Way
  pub there : slice_get (ways_of bundle) number ≡ Some way
  pub from : way.from ≡ end

-- The links of a path, from a tile to another: the first leaves the one, each further one leaves the tile
-- at which the one before ends, and the last ends at the other.
pub record IsPath (platform : Platform) (from to : ℕ) (path : List ℕ) : Type 0 where
  pub some_link : 0 < length path
  pub few_links : length path ≤ MOST_PATH
  pub linked : (k number : ℕ) → slice_get path k ≡ Some number
      → (link : Link) × (slice_get platform.links number ≡ Some link)
  pub begins : (number : ℕ) (link : Link) → slice_get path 0 ≡ Some number
      → slice_get platform.links number ≡ Some link → link.from ≡ from
  pub joined : (k number next : ℕ) (link other : Link) → slice_get path k ≡ Some number
      → slice_get path (suc k) ≡ Some next → slice_get platform.links number ≡ Some link
      → slice_get platform.links next ≡ Some other → other.from ≡ link.to
  pub ends : (number : ℕ) (link : Link) → slice_get path (length path - 1) ≡ Some number
      → slice_get platform.links number ≡ Some link → link.to ≡ to

-- what is true of each channel
pub record IsWellFormedWay (platform : Platform) (bundle : Bundle) (way : Way) : Type 0 where
  pub path : IsPath platform way.from.tile way.to.tile way.path
  pub some_slot : way.slots ≢ []
  pub slots : All (λ slot. slot < platform.table_slots) way.slots
  pub source : IsHeldEnd bundle way.from
  pub target : IsHeldEnd bundle way.to
  pub elsewhere : way.from.tile ≢ way.to.tile

-- the bundle breaks no rule on the platform: each part and each channel is as it should be, no two parts
-- stand on one tile, no two channels leave one port or end at one port, each port of a part is left by one,
-- and no resource stands twice in the list of those that the bundle holds, which are not too many
pub record IsWellFormed (platform : Platform) (bundle : Bundle) : Type 0 where
  pub some_part : bundle.parts ≢ []
  pub parts : All (IsWellFormedPart platform) bundle.parts
  pub apart : IsDistinct nat_eq (map (λ part. part.tile) bundle.parts)
  pub ways : All (IsWellFormedWay platform bundle) (ways_of bundle)
  pub sources : AllPairs (λ one other. one.from ≢ other.from) (ways_of bundle)
  pub targets : AllPairs (λ one other. one.to ≢ other.to) (ways_of bundle)
  pub paired : (end : End) → IsHeldEnd bundle end → IsLeft bundle end
  pub distinct : AllPairs (λ one other. one ≢ other) (resources_of platform bundle)
  pub few : length (resources_of platform bundle) ≤ MOST_RESOURCES
