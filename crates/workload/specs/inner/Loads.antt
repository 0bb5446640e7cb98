-- The loads of a session, by the generator's state before the first of their draws, and the sessions before one.
use Rattle.std.specs.Prelude.{ℕ, List, map, Option, Some}
use Rattle.std.specs.List.{flat_map, range_with_len}
use Rattle.toml.specs.Data.{Members}
use Rattle.toml.specs.Parse.{parse_document}
use Rattle.workload.specs.declared.texts.NamedText.{NamedText}
use Rattle.workload.specs.Draws.{drawn}
use Rattle.workload.specs.Documents.{bundle_document}
use Rattle.workload.specs.Texts.{bundle_name, load_lines, script_name, script_text}

-- files by name, each with the document that its text is
abbrev pub documents_of : List NamedText → List (List ℕ × Option Members)
documents_of files = map (λ file. (file.name, parse_document file.text)) files

-- the bundle files of so many loads of a session
unfoldable pub bundles_from : ℕ → ℕ → ℕ → List (List ℕ × Option Members)
bundles_from state session count = map (λ load.
    (bundle_name session load, Some (bundle_document session (drawn state 1 load)))) (range_with_len 1 count)

-- the lines of so many loads of a session
unfoldable pub lines_from : ℕ → ℕ → ℕ → List ℕ
lines_from state session count =
    flat_map (λ load. load_lines session load (drawn state 1 load)) (range_with_len 1 count)

-- the bundle files of so many sessions of a workload
unfoldable pub bundles_until : ℕ → ℕ → List (List ℕ × Option Members)
bundles_until number count = flat_map (λ session. map (λ load.
    (bundle_name session load, Some (bundle_document session (drawn number session load)))) (range_with_len 1 6))
    (range_with_len 1 count)

-- the scripts of so many sessions of a workload
unfoldable pub scripts_until : ℕ → ℕ → List NamedText
scripts_until number count = map (λ session. record { name = script_name session; text = script_text number session })
    (range_with_len 1 count)
