-- The places of the network, numbered, by which a resource that stands twice is found.
use Rattle.std.specs.Prelude.{◌≡◌, ℕ, ◌+◌, ◌*◌, ◌==◌, Bool, false, List, length, slice_index_or, Option, Some, None}
use Rattle.std.specs.List.{list_any}
use Rattle.std.specs.Option.{option_map_or}
use Rattle.bundle_model.specs.declared.resource.Resource.{Resource}
use Rattle.bundle_model.specs.declared.resource.Resource.TheVariants.{Inject, LinkSlot, Deliver}

-- the number of a resource of the network, where tiles, links and slots are below 256
abbrev pub network_place : Resource → Option ℕ
network_place (Inject tile slot) = Some (tile * 256 + slot)
network_place (LinkSlot link slot) = Some (65536 + link * 256 + slot)
network_place (Deliver tile slot) = Some (131072 + tile * 256 + slot)
network_place _ = None

-- the resource is that of the network with this number
abbrev pub is_at : ℕ → Resource → Bool
is_at place resource = option_map_or (λ other. other == place) (network_place resource) false

-- the resources are of the network and have one number
abbrev pub shares_place : Resource → Resource → Bool
shares_place one other = option_map_or (λ place. is_at place one) (network_place other) false

-- marks, one for each number, at the numbers of the resources that were met
pub record AreMarks (marks : List Bool) (met : List Resource) : Type 0 where
  pub room : length marks ≡ 196608
  pub each : (place : ℕ) → slice_index_or marks place false ≡ list_any (is_at place) met
