-- Raw values that fit in bytes.
use Rattle.std.specs.Prelude.{ℤ, pos, Bool, ◌&&◌, List}
use Rattle.std.specs.List.{list_all}
use Rattle.platform_model.specs.Limits.{is_within}
use Rattle.bundle_model.specs.declared.raw.RawChannel.{RawChannel}
use Rattle.bundle_model.specs.declared.raw.RawPair.{RawPair}

-- each number fits in a byte
abbrev pub are_bytes : List ℤ → Bool
are_bytes numbers = list_all (λ number. is_within number (pos 0) (pos 255)) numbers

-- the numbers of a channel fit in bytes
abbrev pub is_of_bytes : RawChannel → Bool
is_of_bytes channel = are_bytes channel.path && are_bytes channel.slots

-- the numbers of a pair fit in bytes
abbrev pub are_of_bytes : RawPair → Bool
are_of_bytes pair = are_bytes pair.a && are_bytes pair.b && is_of_bytes pair.there && is_of_bytes pair.back
