use Rattle.std.proofs.Common.{◌≡◌, Bool, true, false, List, length, nat_lt, Option, Some, None, sym, ap, ◌∙◌}
use Rattle.std.proofs.lemmas.Bool.{cond-true, cond-false}
use Rattle.std.specs.Prelude.{if◌then◌else◌}
use Rattle.soc_base.specs.Twins.{has_twin}
use Rattle.soc_base.specs.declared.limits.TheConstants.{MOST_RESOURCES}
use Rattle.platform_model.specs.declared.platform.Platform.{Platform}
use Rattle.bundle_model.specs.declared.bundle.Bundle.{Bundle}
use Rattle.bundle_model.specs.declared.resource.Resource.{Resource}
use Rattle.bundle_model.specs.declared.rules.BRule.{BRule}
use Rattle.bundle_model.specs.declared.rules.BRule.TheVariants.{B13, B14}
use Rattle.bundle_model.specs.Resources.{is_same, resources_of}
use Rattle.bundle_model.specs.inner.Places.{shares_place}
use Rattle.bundle_model.specs.inner.Stages.{KeepsEarly, first_late}
use Rattle.bundle_model.proofs.Apart.{twins_claimed}
use Rattle.bundle_model.proofs.doubled.first_overdrawn.Goals as goal

twice : (list : List Resource) → has_twin is_same list ≡ true → Some B13 ≡ first_late list
twice list found = sym (cond-true (has_twin is_same list) (Some B13) _ found)

once : (list : List Resource) (rule : Option BRule) → has_twin is_same list ≡ false → rule ≡ (if nat_lt MOST_RESOURCES (length list) then Some B14 else None) → rule ≡ first_late list
once list rule none is = is ∙ sym (cond-false (has_twin is_same list) (Some B13) _ none)

found : (platform : Platform) (bundle : Bundle) (list : List Resource) (is : Bool) → KeepsEarly platform bundle → list ≡ resources_of platform bundle → is ≡ has_twin shares_place list → is ≡ has_twin is_same (resources_of platform bundle)
found platform bundle list is laid listed marked = marked ∙ ap (has_twin shares_place) listed ∙ twins_claimed platform bundle laid

pub returns-then-branch : goal.returns-then-branch
returns-then-branch c =
    twice (resources_of c.args.platform.now c.args.bundle.now) (sym (found c.args.platform.now c.args.bundle.now c.as_slice-held.result.now c.in_ok-holds_twice.field-0 c.requires (c.as_slice-held.ensures.value ∙ c.in_ok-list.ensures) c.in_ok-holds_twice.ensures) ∙ c.if-branch.true)

pub returns : goal.returns
returns c =
    once (resources_of c.args.platform.now c.args.bundle.now) c.many.result
    (sym (found c.args.platform.now c.args.bundle.now c.as_slice-held.result.now c.in_ok-holds_twice.field-0 c.requires (c.as_slice-held.ensures.value ∙ c.in_ok-list.ensures) c.in_ok-holds_twice.ensures) ∙ c.if-branch.false)
    (c.many.ensures ∙ ap (λ list. if nat_lt MOST_RESOURCES (length list) then Some B14 else None) (c.as_slice-held.ensures.value ∙ c.in_ok-list.ensures))
