-- The documents are no deeper than the library reads them.
use Rattle.std.proofs.Common.{◌≡◌, ℕ, ◌≤◌, List, [], ◌∷◌, map, refl, arith}
use Rattle.toml.specs.Data.{members_depth, items_depth}
use Rattle.toml.specs.View.{items_of}
use Rattle.workload.specs.declared.drawn.Drawn.{Drawn}
use Rattle.workload.specs.Documents.{number, platform_document, bundle_document, there_path, back_path}

-- numbers nest nothing
numbers_depth : (values : List ℕ) → items_depth (items_of (map number values)) ≡ 0
numbers_depth [] = refl
numbers_depth (value ∷ values) = rw (numbers_depth values)

pub platform_depth : members_depth platform_document ≤ 80
unfolding platform_document
platform_depth = omega arith

pub bundle_depth : (session : ℕ) (d : Drawn) → members_depth (bundle_document session d) ≤ 80
unfolding bundle_document
bundle_depth session d = omega (arith, numbers_depth (there_path d), numbers_depth (back_path d))
