-- The sum over all tiles is that of what each tile counts.
use Rattle.std.proofs.Common.{◌≡◌, ℕ, ◌+◌, ◌≤◌, ◌%◌, ◌^◌, List, [], ◌∷◌, length, take, map, sum_by, refl, sym, ap, ◌∙◌}
use Rattle.std.proofs.lemmas.List.{take_all}
use Rattle.std.proofs.lemmas.List.Sums.{sum_by-cons}
use Rattle.tile_core.specs.declared.station.Station.{Station}
use Rattle.serial_run.specs.Run.{tiles_of}
use Rattle.report_text.specs.State.{platform_sum}
use Rattle.report_text.specs.inner.Shares.{tile_share}

sum_mapped : {X Y : Type 0} (f : Y → ℕ) (g : X → Y) (xs : List X) → sum_by (λ x. f (g x)) xs ≡ sum_by f (map g xs)
sum_mapped f g [] = refl
sum_mapped f g (x ∷ xs) =
    sum_by-cons (λ y. f (g y)) x xs ∙ ap (λ n. f (g x) + n) (sum_mapped f g xs) ∙ sym (sum_by-cons f (g x) (map g xs))

pub shares_are_sum : (stations : List Station) (i : ℕ) → length stations ≤ i
    → sum_by (λ station. tile_share station.tile) (take i stations) % 2 ^ 32 ≡ platform_sum (tiles_of stations)
unfolding tile_share
shares_are_sum stations i past =
    ap (λ (xs : List Station). sum_by (λ station. tile_share station.tile) xs % 2 ^ 32) (take_all i stations past)
    ∙ ap (λ n. n % 2 ^ 32) (sum_mapped tile_share (λ station. station.tile) stations)
