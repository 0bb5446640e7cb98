-- What a run knows beforehand: a catalog of judged bundles, and the loads that name them.
use Rattle.std.specs.Prelude.{◌≢◌, ℕ, ◌<◌, ◌≤◌, ◌==◌, List, length, find, Option, All, AllPairs, Contains, IfOk}
use Rattle.std.specs.Option.{option_and_then}
use Rattle.soc_base.specs.declared.limits.TheConstants.{MOST_COMMANDS}
pub use Rattle.soc_base.specs.Label.{same_label}
use Rattle.bundle_model.specs.declared.bundle.Part.{Part}
use Rattle.bundle_model.specs.declared.world.World.{World}
use Rattle.bundle_model.specs.declared.world.LoadName.{LoadName}
use Rattle.bundle_model.specs.declared.world.Grant.{Grant}
use Rattle.bundle_model.specs.WellFormed.{IsWellFormed}
use Rattle.bundle_model.specs.Grants.{bundle_at}

-- each bundle of the catalog that was judged to break no rule is well-formed for the platform
abbrev pub IsSoundCatalog : World → Type 0
IsSoundCatalog world = All (λ named. IfOk named.judged (IsWellFormed world.platform)) world.catalog

-- a world and the loads of a run: the catalog is sound, there are no more loads than commands, no two
-- have one label, and each names a bundle of the catalog
pub record IsSoundWorld (world : World) (loads : List LoadName) : Type 0 where
  pub catalog : IsSoundCatalog world
  pub few : length loads ≤ MOST_COMMANDS
  pub labelled : AllPairs (λ one other. one.label ≢ other.label) loads
  pub known : All (λ load. load.bundle < length world.catalog) loads

-- each grant is of one of the loads, and of the bundle that it names
abbrev pub AreOfLoads : List LoadName → List Grant → Type 0
AreOfLoads loads grants = All (λ grant. Contains loads (record { label = grant.label; bundle = grant.bundle })) grants

-- the part on a tile of the bundle at a place of the catalog, if there is one
abbrev pub part_on : World → ℕ → ℕ → Option Part
part_on world tile place =
    option_and_then (λ bundle. find (λ part. part.tile == tile) bundle.parts) (bundle_at world place)
