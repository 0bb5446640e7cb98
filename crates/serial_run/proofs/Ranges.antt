-- What holds of each number of a range.
use Rattle.std.proofs.Common.{ℕ, ◌+◌, ◌<◌, ◌≤◌, All, arith}
use Rattle.std.specs.List.{range_with_len}
use Rattle.std.proofs.lemmas.List.FromFn.{length-range_with_len, get_or-range_with_len}

pub all_range : (P : ℕ → Type 0) (from count : ℕ) → ((n : ℕ) → from ≤ n → n < from + count → P n)
    → All P (range_with_len from count)
all_range P from count holds = λ k d inside.
    let below : k < count = omega (arith, length-range_with_len from count) in
    rw (get_or-range_with_len from count k d below) (holds (from + k) (omega arith) (omega arith))
