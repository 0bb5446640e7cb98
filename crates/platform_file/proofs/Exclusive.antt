-- A file breaks one rule alone, or gives a platform.
use Rattle.std.proofs.Common.{◌≡◌, ℕ, List, sym, ap, ◌∙◌}
use Rattle.toml_keys.proofs.Laws as documents
use Rattle.platform_model.specs.Platform.{raw_of}
use Rattle.platform_model.specs.declared.platform.Platform.{Platform}
use Rattle.platform_model.specs.declared.rules.PRule.{PRule}
use Rattle.platform_file.specs.Reading.{platform_of, least_rule, Breaks, Gives}
use Rattle.platform_file.proofs.Raw.{same_platform}

-- bytes that give a platform break no rule
pub gives_breaks_none : (bytes : List ℕ) (platform : Platform) (rule : PRule) → Gives bytes platform → Breaks bytes rule → ⊥
gives_breaks_none bytes platform rule gives breaks =
    documents.gives_breaks_none least_rule (λ ms. raw_of platform ≡ platform_of ms) bytes rule gives breaks

-- bytes break one rule alone as the least
pub breaks_one : (bytes : List ℕ) (rule other : PRule) → Breaks bytes rule → Breaks bytes other → rule ≡ other
breaks_one bytes rule other breaks also = documents.breaks_one least_rule bytes rule other breaks also

-- bytes give one platform
pub gives_one : (bytes : List ℕ) (platform other : Platform) → Gives bytes platform → Gives bytes other → platform ≡ other
gives_one bytes platform other gives also =
    let members = documents.gives_one least_rule (λ ms. raw_of platform ≡ platform_of ms) (λ ms. raw_of other ≡ platform_of ms) bytes gives also in
    same_platform platform other (gives.3 ∙ ap platform_of members ∙ sym also.3)
