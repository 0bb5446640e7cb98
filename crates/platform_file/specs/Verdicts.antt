-- That a platform file is judged in one way.
use Rattle.std.specs.Prelude.{◌≡◌, ℕ, List}
use Rattle.platform_model.specs.declared.platform.Platform.{Platform}
use Rattle.platform_model.specs.declared.rules.PRule.{PRule}
use Rattle.platform_file.specs.Reading.{Breaks, Gives}

-- no bytes both give a platform and break a rule; they give one platform, or break one rule as the least
pub record AreJudgedOnce : Type 0 where
  pub never_both :
      (bytes : List ℕ) (platform : Platform) (rule : PRule)
      → Gives bytes platform → Breaks bytes rule → ⊥
  pub one_platform :
      (bytes : List ℕ) (platform other : Platform)
      → Gives bytes platform → Gives bytes other → platform ≡ other
  pub one_rule : (bytes : List ℕ) (rule other : PRule) → Breaks bytes rule → Breaks bytes other → rule ≡ other
