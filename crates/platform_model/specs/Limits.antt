-- Tests of raw numbers.
use Rattle.std.specs.Prelude.{ℤ, pos, Bool, ◌&&◌, int_le, int_rem}
use Rattle.std.specs.Ordering.{int_eq}

-- the number lies from `least` to `greatest`, both included
abbrev pub is_within : ℤ → ℤ → ℤ → Bool
is_within number least greatest = int_le least number && int_le number greatest

-- `unit` divides the number
abbrev pub is_multiple : ℤ → ℤ → Bool
is_multiple number unit = int_eq (int_rem number unit) (pos 0)
