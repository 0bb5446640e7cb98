-- Grants that conflict with a resource, and grants that are apart.
use Rattle.std.specs.Prelude.{◌≢◌, ℕ, ◌<◌, ◌≤◌, ◌⊎◌, Bool, true, ◌&&◌, nat_le, nat_lt, List, [], Option, Some, None, Result, Ok, Err, slice_get, All, AllPairs, IsTrue, IsSome, IsSomeAnd, IfSome}
use Rattle.std.specs.List.{list_any}
use Rattle.std.specs.Option.{option_and_then, option_map_or}
use Rattle.bundle_model.specs.Resources.{resources_of, meets_of}
use Rattle.bundle_model.specs.declared.bundle.Bundle.{Bundle}
use Rattle.bundle_model.specs.declared.resource.Resource.{Resource}
use Rattle.bundle_model.specs.declared.world.World.{World}
use Rattle.bundle_model.specs.declared.world.Grant.{Grant}
use Rattle.bundle_model.specs.declared.rules.BRule.{BRule}

-- the bundle of a file that breaks no rule
abbrev pub kept_bundle : Result Bundle BRule → Option Bundle
kept_bundle (Ok bundle) = Some bundle
kept_bundle (Err rule) = None

-- the bundle at a place of the catalog, if there is one and it breaks no rule
abbrev pub bundle_at : World → ℕ → Option Bundle
bundle_at world place = option_and_then (λ named. kept_bundle named.judged) (slice_get world.catalog place)

-- the resources of a grant's bundle
abbrev pub grant_resources : World → Grant → List Resource
grant_resources world grant = option_map_or (resources_of world.platform) (bundle_at world grant.bundle) []

-- whether a grant with this end isn't over before the slot
abbrev pub lasts_to : ℕ → Option ℕ → Bool
lasts_to slot None = true
lasts_to slot (Some end) = nat_le slot end

-- whether a grant stands at the beginning of a slot: it began before, and is open or doesn't end before
-- the slot
abbrev pub stands_at : ℕ → Grant → Bool
stands_at slot grant = nat_lt grant.start slot && lasts_to slot grant.end

-- whether a grant conflicts with a resource that is asked for from slot `start` on: the grant is open
-- or ends at `start` or later, and some resource of its bundle meets it
abbrev pub conflicts : World → ℕ → Resource → Grant → Bool
conflicts world start resource grant =
    lasts_to start grant.end && list_any (λ held. meets_of held resource) (grant_resources world grant)

-- whether some resource of the one grant meets one of the other
abbrev pub do_meet : World → Grant → Grant → Bool
do_meet world one other =
    list_any (λ resource. list_any (λ held. meets_of held resource) (grant_resources world one))
    (grant_resources world other)

-- the one grant ends before the other begins
abbrev pub EndsBefore : Grant → Grant → Type 0
EndsBefore one other = IsSomeAnd one.end (λ end. end < other.start)

-- the grants can all be kept: each is of a bundle that breaks no rule, no two have one label, none
-- ends before it begins, and of two whose resources meet one ends before the other begins
pub record IsApart (world : World) (grants : List Grant) : Type 0 where
  pub known : All (λ grant. IsSome (bundle_at world grant.bundle)) grants
  pub labelled : AllPairs (λ one other. one.label ≢ other.label) grants
  pub in_order : All (λ grant. IfSome grant.end (λ end. grant.start ≤ end)) grants
  pub apart : AllPairs (λ one other.
      IsTrue (do_meet world one other) → EndsBefore one other ⊎ EndsBefore other one) grants
