-- A number that was read is within its limit.
use Rattle.std.proofs.Common.{◌≡◌, ℕ, ◌≤◌, Bool, true, false, cond, List, length, nat_le, ◌==◌, position, Option, Some, None, Ok, Err, refl, subst}
use Rattle.std.proofs.lemmas.Bool.{leb-true}
use Rattle.soc_base.specs.Text.{number_read, digits_read, within_or_large, value_of, is_no_digit}
use Rattle.soc_base.specs.declared.number.NumFault.TheVariants.{Empty}

value_within : (low : Bool) (value limit number : ℕ) → nat_le value limit ≡ low
    → within_or_large (cond low (Some value) None) ≡ Ok number → number ≤ limit
value_within true value limit number test is =
    let same : value ≡ number = cc in
    subst (λ n. n ≤ limit) same (leb-true value limit test)
value_within false value limit number test is = cc

digits_within : (other : Option ℕ) (bytes : List ℕ) (limit number : ℕ) → digits_read other bytes limit ≡ Ok number
    → number ≤ limit
digits_within (Some place) bytes limit number is = cc
digits_within None bytes limit number is =
    value_within (nat_le (value_of bytes) limit) (value_of bytes) limit number refl is

bytes_within : (none : Bool) (bytes : List ℕ) (limit number : ℕ)
    → cond none (Err Empty) (digits_read (position is_no_digit bytes) bytes limit) ≡ Ok number → number ≤ limit
bytes_within true bytes limit number is = cc
bytes_within false bytes limit number is = digits_within (position is_no_digit bytes) bytes limit number is

pub read_within : (bytes : List ℕ) (limit number : ℕ) → number_read bytes limit ≡ Ok number → number ≤ limit
read_within bytes limit number is = bytes_within (length bytes == 0) bytes limit number is
