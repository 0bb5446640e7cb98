-- What each bundle of a catalog holds, listed beforehand.
use Rattle.std.specs.Prelude.{ℕ, ◌<◌, ◌^◌, List, [], map, IfSome}
use Rattle.std.specs.Option.{option_map_or}
use Rattle.platform_model.specs.declared.platform.Platform.{Platform}
use Rattle.bundle_model.specs.Grants.{bundle_at, kept_bundle}
use Rattle.bundle_model.specs.Resources.{resources_of}
use Rattle.bundle_model.specs.declared.resource.Resource.{Resource}
use Rattle.bundle_model.specs.declared.world.Named.{Named}
use Rattle.bundle_model.specs.declared.world.World.{World}
use Rattle.bundle_model.specs.declared.world.Grant.{Grant}

-- the resources of a bundle file's bundle; none where it breaks a rule
abbrev pub claimed_by : Platform → Named → List Resource
claimed_by platform named = option_map_or (resources_of platform) (kept_bundle named.judged) []

-- the resources of each bundle of the catalog, in the catalog's order
abbrev pub claims_of : World → List (List Resource)
claims_of world = map (claimed_by world.platform) world.catalog

-- the resources of the bundle at a place of the catalog; none where it breaks a rule or there is none
abbrev pub claimed_at : World → ℕ → List Resource
claimed_at world place = option_map_or (resources_of world.platform) (bundle_at world place) []

-- the slot after the grant's end is a number that fits
abbrev pub HasSmallEnd : Grant → Type 0
HasSmallEnd grant = IfSome grant.end (λ end. end < 2 ^ 63)
