-- A flit as a word of 64 bits.
use Rattle.std.specs.Prelude.{ℕ, ◌≡◌, ◌≢◌, ◌+◌, ◌*◌, ◌/◌, ◌%◌, ◌^◌, ◌≤◌, ◌⊎◌, ◌==◌, ◌&&◌, if◌then◌else◌, Option, Some, None, Result, Ok, Err}
use Rattle.soc_base.specs.Port.{WordAndCredits}
use Rattle.flit_link.specs.declared.packing.BadFlit.{BadFlit}

-- bits 0 to 31 and bit 38
abbrev pub word_bits : Option ℕ → ℕ
word_bits None = 0
word_bits (Some word) = word + 2 ^ 38

-- the word in bits 0 to 31, the credits in bits 32 to 37, the word's presence in bit 38
abbrev pub bits_of : WordAndCredits → ℕ
bits_of flit = word_bits flit.word + flit.credits * 2 ^ 32

-- bit 39 or a higher one is set, or bit 38 isn't and one of the bits 0 to 31 is
abbrev pub IsBad : ℕ → Type 0
IsBad bits = (2 ^ 39 ≤ bits) ⊎ ((bits / 2 ^ 38 % 2 ≡ 0) × (bits % 2 ^ 32 ≢ 0))

-- the flit that the bits are those of
abbrev pub unpacked : ℕ → Result WordAndCredits BadFlit
unpacked bits =
    if bits / 2 ^ 38 == 1 then Ok (record { word = Some (bits % 2 ^ 32); credits = bits / 2 ^ 32 % 64 })
    else if bits / 2 ^ 38 == 0 && bits % 2 ^ 32 == 0 then Ok (record { word = None; credits = bits / 2 ^ 32 % 64 })
    else Err (record {})

-- the bits are those of a flit
abbrev pub IsPacked : ℕ → Type 0
IsPacked bits = (flit : WordAndCredits) × (unpacked bits ≡ Ok flit)

-- what the bits carry; only of use where they are those of a flit
abbrev pub flit_of : ℕ → WordAndCredits
flit_of bits = record { word = if bits / 2 ^ 38 == 1 then Some (bits % 2 ^ 32) else None; credits = bits / 2 ^ 32 % 64 }
