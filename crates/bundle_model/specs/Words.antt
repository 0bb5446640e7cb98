-- The words of the rules of bundle files, as they are printed.
use Rattle.std.specs.Prelude.{ℕ, codes, List}
use Rattle.bundle_model.specs.declared.rules.BRule.{BRule}
use Rattle.bundle_model.specs.declared.rules.BRule.TheVariants.{B1, B2, B3, B4, B5, B6, B7, B8, B9, B10, B11, B12, B13, B14}

-- the word of a rule
abbrev pub bundle_rule_text : BRule → List ℕ
bundle_rule_text B1 = codes "B1"
bundle_rule_text B2 = codes "B2"
bundle_rule_text B3 = codes "B3"
bundle_rule_text B4 = codes "B4"
bundle_rule_text B5 = codes "B5"
bundle_rule_text B6 = codes "B6"
bundle_rule_text B7 = codes "B7"
bundle_rule_text B8 = codes "B8"
bundle_rule_text B9 = codes "B9"
bundle_rule_text B10 = codes "B10"
bundle_rule_text B11 = codes "B11"
bundle_rule_text B12 = codes "B12"
bundle_rule_text B13 = codes "B13"
bundle_rule_text B14 = codes "B14"
