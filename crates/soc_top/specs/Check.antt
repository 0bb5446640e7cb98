-- The command `check`: which files it reads, and what it writes.
use Rattle.std.specs.Prelude.{◌≡◌, ℕ, List, [], ◌∷◌, ◌++◌, codes, find, fold, map, Some, Result, Ok, Err}
use Rattle.std.specs.List.{flat_map}
use Rattle.std.specs.Option.{option_map_or}
use Rattle.std.specs.Str.{bytes_eq}
use Rattle.platform_model.specs.declared.platform.Platform.{Platform}
use Rattle.bundle_model.specs.declared.bundle.Bundle.{Bundle}
use Rattle.bundle_model.specs.declared.rules.BRule.{BRule}
use Rattle.bundle_model.specs.declared.world.Named.{Named}
use Rattle.bundle_model.specs.Words.{bundle_rule_text}
use Rattle.report_text.specs.Rows.{line_end}
use Rattle.command_words.specs.declared.request.CheckWords.{CheckWords}
use Rattle.command_words.specs.declared.request.Request.TheVariants.{Check}
use Rattle.command_words.specs.Request.{asked_of}
use Rattle.soc_top.specs.Exchange.{Exchange}
use Rattle.soc_top.specs.Wants.{Input}
use Rattle.soc_top.specs.Wants.Want.{PlatformWant}
use Rattle.soc_top.specs.Wants.Input.{PlatformRead, ScriptRead, BundleRead}
use Rattle.soc_top.specs.Order.{Order}
use Rattle.soc_top.specs.Order.Order.{Next, Whole}
use Rattle.soc_top.specs.Answers.{Answers}
use Rattle.soc_top.specs.Run.{with_name, bundles_order}

-- the bundle files that the words name, each once, in the order of their first naming
abbrev pub checked_names : CheckWords → List (List ℕ)
checked_names request = fold with_name [] request.bundles

-- after the platform, the bundle files
abbrev pub checked_order : CheckWords → Input → Order
checked_order request (PlatformRead platform) = bundles_order platform (checked_names request)
checked_order request (ScriptRead script) = Whole
checked_order request (BundleRead named) = Whole

-- the platform is read and judged first; then each bundle file
abbrev pub check_order : CheckWords → Order
check_order request = Next (PlatformWant request.platform) (checked_order request)

-- how a bundle was judged
abbrev pub verdict_text : Result Bundle BRule → List ℕ
verdict_text (Ok bundle) = codes " ok"
verdict_text (Err rule) = codes " malformed " ++ bundle_rule_text rule

-- the line of a bundle file by its name, as in `a.toml ok` and `cut.toml malformed B1`
abbrev pub verdict_line : List Named → List ℕ → List ℕ
verdict_line catalog name =
    name ++ option_map_or (λ named. verdict_text named.judged) (find (λ named. bytes_eq named.name name) catalog) []
    ++ line_end

-- a line for each bundle file that the words name, in their order, and as often as they name it
abbrev pub verdicts_text : List Named → CheckWords → List ℕ
verdicts_text catalog request = flat_map (verdict_line catalog) request.bundles

-- what the files gave: a platform and the bundle files
abbrev pub check_inputs : Platform → List Named → List Input
check_inputs platform catalog = PlatformRead platform ∷ map BundleRead catalog

-- the verdicts, by what the files gave
abbrev pub CheckTexts : CheckWords → List Input → List ℕ → Type 0
CheckTexts request inputs text =
    (platform : Platform) × ((catalog : List Named) × (inputs ≡ check_inputs platform catalog)
    × (text ≡ verdicts_text catalog request))

-- how a request to check may end with a status
abbrev pub CheckAnswers : Exchange → CheckWords → ℕ → Type 0
CheckAnswers e request status = Answers e (check_order request) (CheckTexts request) status

-- the same, where the words ask for one
abbrev pub AnswersCheck : Exchange → List (List ℕ) → ℕ → Type 0
AnswersCheck e words status =
    (request : CheckWords) → asked_of words ≡ Some (Check request) → CheckAnswers e request status
