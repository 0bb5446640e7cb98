-- The two stages of judging, and the rules that neither of them broke.
use Rattle.std.proofs.Common.{◌≡◌, [], ◌∷◌, Option, Some, None, sym, ap, ◌∙◌}
use Rattle.std.specs.Option.{option_or}
use Rattle.std.proofs.lemmas.List.Folds.{find-append}
use Rattle.platform_model.specs.declared.platform.Platform.{Platform}
use Rattle.bundle_model.specs.declared.raw.RawBundle.{RawBundle}
use Rattle.bundle_model.specs.declared.rules.BRule.{BRule}
use Rattle.bundle_model.specs.declared.rules.BRule.TheVariants.{B13, B14}
use Rattle.bundle_model.specs.Rules.{breaks, first_rule, raw_resources}
use Rattle.bundle_model.specs.inner.Stages.{early_rules, first_early, first_late}

-- the least rule is that of the first stage, or else that of the second
pub by_stages : (platform : Platform) (raw : RawBundle) → first_rule platform raw ≡ option_or (first_early platform raw) (first_late (raw_resources platform raw))
by_stages platform raw = find-append (λ rule. breaks rule platform raw) early_rules (B13 ∷ B14 ∷ [])

pub first_stage : (platform : Platform) (raw : RawBundle) (rule : BRule) → first_early platform raw ≡ Some rule → first_rule platform raw ≡ Some rule
first_stage platform raw rule is = by_stages platform raw ∙ ap (λ early. option_or early (first_late (raw_resources platform raw))) is

pub second_stage : (platform : Platform) (raw : RawBundle) (late : Option BRule) → first_early platform raw ≡ None → late ≡ first_late (raw_resources platform raw) → first_rule platform raw ≡ late
second_stage platform raw late none is = by_stages platform raw ∙ ap (λ early. option_or early (first_late (raw_resources platform raw))) none ∙ sym is
