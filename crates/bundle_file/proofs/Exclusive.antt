-- On one platform a file breaks one rule alone, or gives a bundle.
use Rattle.std.proofs.Common.{◌≡◌, ℕ, List, sym, ap, ◌∙◌}
use Rattle.toml_keys.proofs.Laws as documents
use Rattle.platform_model.specs.declared.platform.Platform.{Platform}
use Rattle.bundle_model.specs.Bundle.{bundle_of}
use Rattle.bundle_model.specs.declared.bundle.Bundle.{Bundle}
use Rattle.bundle_model.specs.declared.rules.BRule.{BRule}
use Rattle.bundle_file.specs.Reading.{raw_bundle, least_rule, Breaks, Gives}

-- bytes that give a bundle break no rule
pub gives_breaks_none : (platform : Platform) (bytes : List ℕ) (bundle : Bundle) (rule : BRule) → Gives platform bytes bundle → Breaks platform bytes rule → ⊥
gives_breaks_none platform bytes bundle rule gives breaks =
    documents.gives_breaks_none (least_rule platform) (λ ms. bundle ≡ bundle_of (raw_bundle ms)) bytes rule gives breaks

-- bytes break one rule alone as the least
pub breaks_one : (platform : Platform) (bytes : List ℕ) (rule other : BRule) → Breaks platform bytes rule → Breaks platform bytes other → rule ≡ other
breaks_one platform bytes rule other breaks also = documents.breaks_one (least_rule platform) bytes rule other breaks also

-- bytes give one bundle
pub gives_one : (platform : Platform) (bytes : List ℕ) (bundle other : Bundle) → Gives platform bytes bundle → Gives platform bytes other → bundle ≡ other
gives_one platform bytes bundle other gives also =
    let members = documents.gives_one (least_rule platform) (λ ms. bundle ≡ bundle_of (raw_bundle ms)) (λ ms. other ≡ bundle_of (raw_bundle ms)) bytes gives also in
    gives.3 ∙ ap (λ ms. bundle_of (raw_bundle ms)) members ∙ sym also.3
