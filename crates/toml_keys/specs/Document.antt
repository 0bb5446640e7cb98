-- The bytes of a file as a TOML document.
use Rattle.std.specs.Prelude.{◌≡◌, ◌≤◌, ℕ, List, length, Option, Some, None}
use Rattle.std.specs.Str.{IsUtf8}
use Rattle.soc_base.specs.declared.limits.TheConstants.{MOST_FILE_BYTES}
use Rattle.toml.specs.Data.{Members}
use Rattle.toml.specs.Parse.{parse_document}

-- the bytes are a document with these members, and no longer than a file may be
abbrev pub IsDocument : List ℕ → Members → Type 0
IsDocument bytes ms = (length bytes ≤ MOST_FILE_BYTES) × IsUtf8 bytes × (parse_document bytes ≡ Some ms)

-- what the bytes are: a document with these members, or none
abbrev pub Reads : List ℕ → Option Members → Type 0
Reads bytes (Some ms) = IsDocument bytes ms
Reads bytes None = (ms : Members) → ¬ (IsDocument bytes ms)
