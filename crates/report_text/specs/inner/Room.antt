-- How much room the rows of an application need.
use Rattle.std.specs.Prelude.{ℕ, max, map, fold, sum_by, Result, Ok, Err}
use Rattle.bundle_model.specs.declared.bundle.Bundle.{Bundle}
use Rattle.bundle_model.specs.declared.rules.BRule.{BRule}
use Rattle.bundle_model.specs.declared.world.World.{World}

-- the most rows that the parts of a bundle keep
abbrev pub bundle_rows : Result Bundle BRule → ℕ
bundle_rows (Ok bundle) = sum_by (λ part. part.trace) bundle.parts
bundle_rows (Err rule) = 0

-- the most rows that an application of the world can have
abbrev pub most_rows : World → ℕ
most_rows world = fold (λ most rows. max most rows) 0 (map (λ named. bundle_rows named.judged) world.catalog)
