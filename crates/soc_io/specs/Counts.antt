-- Counts of faults. A count is a number of 64 bits that stays at the greatest once it is there.
use Rattle.std.specs.Prelude.{ℕ, ◌+◌, ◌-◌, ◌^◌, ◌≤◌, min}

-- the count after one more
abbrev pub one_more : ℕ → ℕ
one_more count = min (count + 1) (2 ^ 64 - 1)

-- a count rose in a call: it is greater after than before, or stands at the greatest number
abbrev pub Rose : ℕ → ℕ → Type 0
Rose before now = one_more before ≤ now
