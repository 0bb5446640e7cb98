-- The words of the rules of platform files, as they are printed.
use Rattle.std.specs.Prelude.{ℕ, codes, List}
use Rattle.platform_model.specs.declared.rules.PRule.{PRule}
use Rattle.platform_model.specs.declared.rules.PRule.TheVariants.{P1, P2, P3, P4, P5, P6, P7, P8, P9, P10, P11, P12}

-- the word of a rule
abbrev pub platform_rule_text : PRule → List ℕ
platform_rule_text P1 = codes "P1"
platform_rule_text P2 = codes "P2"
platform_rule_text P3 = codes "P3"
platform_rule_text P4 = codes "P4"
platform_rule_text P5 = codes "P5"
platform_rule_text P6 = codes "P6"
platform_rule_text P7 = codes "P7"
platform_rule_text P8 = codes "P8"
platform_rule_text P9 = codes "P9"
platform_rule_text P10 = codes "P10"
platform_rule_text P11 = codes "P11"
platform_rule_text P12 = codes "P12"
