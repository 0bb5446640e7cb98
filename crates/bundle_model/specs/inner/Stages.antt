-- The two stages of judging a bundle: by the raw values, and by the list of resources that they mean.
use Rattle.std.specs.Prelude.{◌≢◌, Bool, false, nat_lt, nat_eq, List, [], ◌∷◌, map, length, Option, Some, None, if◌then◌else◌, All, AllPairs}
use Rattle.std.specs.List.{find, IsDistinct}
use Rattle.soc_base.specs.Twins.{has_twin}
use Rattle.soc_base.specs.declared.limits.TheConstants.{MOST_RESOURCES}
use Rattle.platform_model.specs.declared.platform.Platform.{Platform}
use Rattle.bundle_model.specs.declared.raw.RawBundle.{RawBundle}
use Rattle.bundle_model.specs.declared.bundle.End.{End}
use Rattle.bundle_model.specs.declared.bundle.Bundle.{Bundle}
use Rattle.bundle_model.specs.declared.resource.Resource.{Resource}
use Rattle.bundle_model.specs.declared.rules.BRule.{BRule}
use Rattle.bundle_model.specs.declared.rules.BRule.TheVariants.{B4, B5, B6, B7, B8, B9, B10, B11, B12, B13, B14}
use Rattle.bundle_model.specs.Rules.{breaks}
use Rattle.bundle_model.specs.Resources.{is_same}
use Rattle.bundle_model.specs.Ways.{ways_of}
use Rattle.bundle_model.specs.WellFormed.{IsWellFormedPart, IsWellFormedWay, IsHeldEnd, IsLeft}

-- the rules that are judged without a list of resources, in their order
abbrev pub early_rules : List BRule
early_rules = B4 ∷ B5 ∷ B6 ∷ B7 ∷ B8 ∷ B9 ∷ B10 ∷ B11 ∷ B12 ∷ []

-- whether the raw values break one of these
abbrev pub breaks_early : BRule → Platform → RawBundle → Bool
breaks_early B13 platform raw = false
breaks_early B14 platform raw = false
breaks_early rule platform raw = breaks rule platform raw

-- the least of these that the raw values break
abbrev pub first_early : Platform → RawBundle → Option BRule
first_early platform raw = find (λ rule. breaks_early rule platform raw) early_rules

-- the least of the rules B13 and B14 that a list of resources breaks
abbrev pub first_late : List Resource → Option BRule
first_late list =
    if has_twin is_same list then Some B13
    else (if nat_lt MOST_RESOURCES (length list) then Some B14 else None)

-- what is true of a bundle that keeps the rules up to B12
pub record KeepsEarly (platform : Platform) (bundle : Bundle) : Type 0 where
  pub some_part : bundle.parts ≢ []
  pub parts : All (IsWellFormedPart platform) bundle.parts
  pub apart : IsDistinct nat_eq (map (λ part. part.tile) bundle.parts)
  pub ways : All (IsWellFormedWay platform bundle) (ways_of bundle)
  pub sources : AllPairs (λ one other. one.from ≢ other.from) (ways_of bundle)
  pub targets : AllPairs (λ one other. one.to ≢ other.to) (ways_of bundle)
  pub paired : (end : End) → IsHeldEnd bundle end → IsLeft bundle end
