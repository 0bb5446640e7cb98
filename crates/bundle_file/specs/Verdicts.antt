-- That a bundle file is judged in one way on a platform.
use Rattle.std.specs.Prelude.{◌≡◌, ℕ, List}
use Rattle.platform_model.specs.declared.platform.Platform.{Platform}
use Rattle.bundle_model.specs.declared.bundle.Bundle.{Bundle}
use Rattle.bundle_model.specs.declared.rules.BRule.{BRule}
use Rattle.bundle_file.specs.Reading.{Breaks, Gives}

-- no bytes both give a bundle and break a rule; they give one bundle, or break one rule as the least
pub record AreJudgedOnce : Type 0 where
  pub never_both :
      (platform : Platform) (bytes : List ℕ) (bundle : Bundle) (rule : BRule)
      → Gives platform bytes bundle → Breaks platform bytes rule → ⊥
  pub one_bundle :
      (platform : Platform) (bytes : List ℕ) (bundle other : Bundle)
      → Gives platform bytes bundle → Gives platform bytes other → bundle ≡ other
  pub one_rule :
      (platform : Platform) (bytes : List ℕ) (rule other : BRule)
      → Breaks platform bytes rule → Breaks platform bytes other → rule ≡ other
