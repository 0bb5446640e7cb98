-- Raw numbers in a range, which are below 2 ^ 63.
use Rattle.std.proofs.Common.{◌≡◌, ℕ, ℤ, pos, negsuc, ◌%◌, ◌^◌, ◌<◌, ap, subst, sym, true, int_le, int_rem, w64, to_z, of_z, arith}
use Rattle.std.proofs.lemmas.Bool.{and_parts, leb-true}
use Rattle.std.proofs.lemmas.Int.{to_z_pos}
use Rattle.std.proofs.lemmas.Bool.Decides.{Decides-int_eq}
use Rattle.std.specs.Prelude.{nat_abs}
use Rattle.platform_model.specs.Limits.{is_within, is_multiple}

-- a number in a range is read back as it was written
pub read_back : (number : ℤ) (least greatest : ℕ) → greatest < 2 ^ 63 → is_within number (pos least) (pos greatest) ≡ true → to_z w64 (of_z w64 number) ≡ number
read_back (pos n) least greatest small within =
    let below = leb-true n greatest (and_parts (int_le (pos least) (pos n)) (int_le (pos n) (pos greatest)) within).1 in
    to_z_pos w64 n (omega (arith, below, small))
read_back (negsuc n) least greatest small within = cc

-- so it is in the range when it is read back
pub within_read : (number : ℤ) (least greatest : ℕ) → greatest < 2 ^ 63 → is_within number (pos least) (pos greatest) ≡ true → is_within (to_z w64 (of_z w64 number)) (pos least) (pos greatest) ≡ true
within_read number least greatest small within = rw (read_back number least greatest small within) within

-- a multiple has no remainder
pub no_remainder : (n unit : ℕ) (number : ℤ) → pos n ≡ number → is_multiple number (pos unit) ≡ true → n % unit ≡ 0
no_remainder n unit number same multiple =
    let P : ℤ → Type 0 = λ z. is_multiple z (pos unit) ≡ true in
    let divided : is_multiple (pos n) (pos unit) ≡ true = subst P (sym same) multiple in
    ap nat_abs ((Decides-int_eq (int_rem (pos n) (pos unit)) (pos 0)).0 divided)
