-- The words of the rules of scripts.
use Rattle.std.specs.Prelude.{ℕ, List, codes}
use Rattle.script_file.specs.declared.rules.SRule.{SRule}
use Rattle.script_file.specs.declared.rules.SRule.TheVariants.{S1, S2, S3}

-- the word of a rule, as refusals print it
abbrev pub script_rule_text : SRule → List ℕ
script_rule_text S1 = codes "S1"
script_rule_text S2 = codes "S2"
script_rule_text S3 = codes "S3"
