-- Words that were read from bytes.
use Rattle.std.proofs.Common.{◌≡◌, ℕ, ◌*◌, ◌/◌, ◌%◌, List, length, drop, Some, None, ◌≢◌, ap, arith}
use Rattle.std.proofs.lemmas.Bool.Decides.{nat_tests}
use Rattle.std.proofs.lemmas.List.FromFn.{fill_by_all}
use Rattle.byteorder.specs.Endian.{little_number, IsRead}
use Rattle.bundle_file.specs.Image.{whole_words}

-- words that were read from whole words of bytes are all of their words
pub words_read : (bytes words : List ℕ) → length bytes % 4 ≡ 0 → length words ≡ length bytes / 4 → IsRead little_number 4 bytes words → Some words ≡ whole_words bytes
unfolding whole_words
words_read bytes words whole counted read =
    rw whole (ap Some (fill_by_all (λ place. little_number 4 (drop (4 * place) bytes)) words (length bytes / 4) 0 counted (λ k below. read k (omega arith))))

-- bytes that are no whole words have none
pub no_words : (bytes : List ℕ) → length bytes % 4 ≢ 0 → None ≡ whole_words bytes
unfolding whole_words
no_words bytes part = grind (arith, nat_tests)
