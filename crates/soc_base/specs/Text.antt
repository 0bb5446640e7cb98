-- Numbers as text, and text as numbers. A decimal text is std's `decimal`.
use Rattle.std.specs.Prelude.{ℕ, Bool, ◌+◌, ◌-◌, ◌*◌, ◌/◌, ◌%◌, ◌^◌, ◌||◌, ◌==◌, List, [], ◌∷◌, fold, length, position, nat_lt, nat_le, if◌then◌else◌, Option, Some, None, Result, Ok, Err}
use Rattle.soc_base.specs.declared.number.NumFault.{NumFault}
use Rattle.soc_base.specs.declared.number.NumFault.TheVariants.{Empty, Digit, Large}

-- the lower-case hexadecimal digit of a number below 16
abbrev pub hex_digit : ℕ → ℕ
hex_digit n = if nat_lt n 10 then 48 + n else 87 + n

-- a word of 32 bits as eight lower-case hexadecimal digits, the highest first
unfoldable pub hex_text : ℕ → List ℕ
hex_text w =
    hex_digit (w / 2 ^ 28 % 16) ∷ hex_digit (w / 2 ^ 24 % 16) ∷ hex_digit (w / 2 ^ 20 % 16)
    ∷ hex_digit (w / 2 ^ 16 % 16) ∷ hex_digit (w / 2 ^ 12 % 16) ∷ hex_digit (w / 2 ^ 8 % 16)
    ∷ hex_digit (w / 2 ^ 4 % 16) ∷ hex_digit (w % 16) ∷ []

-- the byte is no decimal digit
abbrev pub is_no_digit : ℕ → Bool
is_no_digit byte = nat_lt byte 48 || nat_lt 57 byte

-- the value of decimal digits, the highest first
abbrev pub value_of : List ℕ → ℕ
value_of digits = fold (λ value digit. value * 10 + (digit - 48)) 0 digits

-- a value, where it is within the limit
abbrev pub number_within : ℕ → ℕ → Option ℕ
number_within value limit = if nat_le value limit then Some value else None

-- a value within the limit, or that it is above
abbrev pub within_or_large : Option ℕ → Result ℕ NumFault
within_or_large (Some value) = Ok value
within_or_large None = Err Large

-- what bytes are read as of which the first that is no digit stands at this place, if any does
abbrev pub digits_read : Option ℕ → List ℕ → ℕ → Result ℕ NumFault
digits_read (Some place) bytes limit = Err (Digit place)
digits_read None bytes limit = within_or_large (number_within (value_of bytes) limit)

-- the number that a text of decimal digits stands for, or the first fault: no byte, the first byte
-- that is no digit, a value above the limit
abbrev pub number_read : List ℕ → ℕ → Result ℕ NumFault
number_read bytes limit = if length bytes == 0 then Err Empty else digits_read (position is_no_digit bytes) bytes limit
