-- The words of an image, from its text.
use Rattle.std.specs.Prelude.{ℕ, ◌*◌, ◌/◌, ◌%◌, ◌==◌, if◌then◌else◌, List, map, length, drop, Option, Some, None, Result, Ok, Err}
use Rattle.std.specs.List.{range_with_len}
use Rattle.byteorder.specs.Endian.{little_number}
use Rattle.hex.specs.Hex.{decode_of}
use Rattle.hex.specs.declared.error.FromHexError.{FromHexError}

-- the words that stand in bytes, four bytes each, the lowest byte first
abbrev pub little_words : List ℕ → List ℕ
little_words bytes = map (λ place. little_number 4 (drop (4 * place) bytes)) (range_with_len 0 (length bytes / 4))

-- the same, if the bytes are whole words
unfoldable pub whole_words : List ℕ → Option (List ℕ)
whole_words bytes = if length bytes % 4 == 0 then Some (little_words bytes) else None

-- the words of what hexadecimal text was decoded to
abbrev pub decoded_words : Result (List ℕ) FromHexError → Option (List ℕ)
decoded_words (Ok bytes) = whole_words bytes
decoded_words (Err fault) = None

-- the words of an image, if its text is hexadecimal text of whole words: `93027000` is the word
-- 00700293
unfoldable pub image_of : List ℕ → Option (List ℕ)
image_of text = decoded_words (decode_of text)
