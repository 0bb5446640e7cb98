-- The texts of a workload.
use Rattle.std.specs.Prelude.{◌≡◌, ℕ, ◌+◌, ◌-◌, ◌*◌, List, ◌++◌, codes, decimal, map, Option, Some}
use Rattle.std.specs.List.{flat_map, range_with_len}
use Rattle.toml.specs.Data.{Members}
use Rattle.toml.specs.Parse.{parse_document}
use Rattle.workload.specs.declared.texts.NamedText.{NamedText}
use Rattle.workload.specs.declared.texts.Texts.{Texts}
use Rattle.workload.specs.Draws.{drawn}
use Rattle.workload.specs.Documents.{platform_document, bundle_document}
use Rattle.workload.specs.declared.drawn.Drawn.{Drawn}

-- the name of the bundle file of a session's load, as in `g11.toml`
abbrev pub bundle_name : ℕ → ℕ → List ℕ
bundle_name session load = codes "g" ++ decimal session ++ decimal load ++ codes ".toml"

-- the name of a session's script, as in `g1.txt`
abbrev pub script_name : ℕ → List ℕ
script_name session = codes "g" ++ decimal session ++ codes ".txt"

-- A load's three lines: it is loaded within a stretch of 8192 cycles, stopped 6144 cycles later, and then the
-- session asks for nothing before the next stretch.
abbrev pub load_lines : ℕ → ℕ → Drawn → List ℕ
load_lines session load d =
    let start = 8192 * (load - 1) + d.offset in
    codes "load " ++ bundle_name session load ++ codes " at " ++ decimal start
    ++ codes "\nstop " ++ decimal load ++ codes " at " ++ decimal (start + 6144)
    ++ codes "\nuntil " ++ decimal (8192 * load) ++ codes "\n"

-- the script of a session: its six loads
unfoldable pub script_text : ℕ → ℕ → List ℕ
script_text number session =
    flat_map (λ load. load_lines session load (drawn number session load)) (range_with_len 1 6)

-- the scripts, one for each session
abbrev pub scripts_of : ℕ → List NamedText
scripts_of number = map (λ session. record { name = script_name session; text = script_text number session })
    (range_with_len 1 4)

-- the bundle files by name, each with the document that it is, in the order of sessions and loads
abbrev pub bundles_of : ℕ → List (List ℕ × Option Members)
bundles_of number = flat_map (λ session. map (λ load.
    (bundle_name session load, Some (bundle_document session (drawn number session load)))) (range_with_len 1 6))
    (range_with_len 1 4)

-- the texts of the workload of a number: a platform file and bundle files that are these documents, these
-- scripts, and the cycle at which the run ends
pub record AreTexts (number : ℕ) (texts : Texts) : Type 0 where
  pub platform : parse_document texts.platform ≡ Some platform_document
  pub bundles : map (λ file. (file.name, parse_document file.text)) texts.bundles ≡ bundles_of number
  pub scripts : texts.scripts ≡ scripts_of number
  pub budget : texts.budget ≡ 65536
