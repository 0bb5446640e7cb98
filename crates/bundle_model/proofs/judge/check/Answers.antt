use Rattle.std.proofs.Common.{◌≡◌, Option, None, rules, subst, sym, ap, ◌∙◌}
use Rattle.platform_model.specs.declared.platform.Platform.{Platform}
use Rattle.bundle_model.specs.declared.raw.RawBundle.{RawBundle}
use Rattle.bundle_model.specs.declared.bundle.Bundle.{Bundle}
use Rattle.bundle_model.specs.declared.rules.BRule.{BRule}
use Rattle.bundle_model.specs.Bundle.{bundle_of}
use Rattle.bundle_model.specs.Resources.{resources_of}
use Rattle.bundle_model.specs.Rules.{first_rule}
use Rattle.bundle_model.specs.inner.Stages.{KeepsEarly, first_early, first_late}
use Rattle.bundle_model.proofs.Early.{second_stage}
use Rattle.bundle_model.proofs.Unbroken.{keeps_early, well_formed}
use Rattle.bundle_model.proofs.judge.check.Goals as goal

late : (platform : Platform) (raw : RawBundle) (bundle : Bundle) (rule : Option BRule) → first_early platform raw ≡ None → bundle ≡ bundle_of raw → rule ≡ first_late (resources_of platform bundle) → first_rule platform raw ≡ rule
late platform raw bundle rule none same is = second_stage platform raw rule none (is ∙ ap (λ b. first_late (resources_of platform b)) same)

pub returns-in-Some-2-clause-rule : goal.returns-in-Some-2-clause-rule
returns-in-Some-2-clause-rule c =
    let none : first_early c.args.platform.now c.args.raw.now ≡ None = search rules in
    late c.args.platform.now c.args.raw.now c.in_ok-bundle.bundle c.in_ok-rule.field-0 none c.in_ok-bundle.ensures c.in_ok-rule.ensures ∙ c.in-Some-2.is

pub returns-clause-rule : goal.returns-clause-rule
returns-clause-rule c =
    let none : first_early c.args.platform.now c.args.raw.now ≡ None = search rules in
    late c.args.platform.now c.args.raw.now c.in_ok-bundle.bundle c.in_ok-rule.field-0 none c.in_ok-bundle.ensures c.in_ok-rule.ensures ∙ c.in_default-2.is

pub returns-clause-well_formed : goal.returns-clause-well_formed
returns-clause-well_formed c =
    let none : first_early c.args.platform.now c.args.raw.now ≡ None = search rules in
    let laid = subst (KeepsEarly c.args.platform.now) (sym c.in_ok-bundle.ensures) (keeps_early c.args.platform.now c.args.raw.now none) in
    well_formed c.args.platform.now c.in_ok-bundle.bundle laid (sym c.in_ok-rule.ensures ∙ c.in_default-2.is)

pub first_overdrawn-requires : goal.first_overdrawn-requires
first_overdrawn-requires c =
    let none : first_early c.args.platform.now c.args.raw.now ≡ None = search rules in
    subst (KeepsEarly c.args.platform.now) (sym c.in_ok-bundle.ensures) (keeps_early c.args.platform.now c.args.raw.now none)
