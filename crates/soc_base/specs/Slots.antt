-- Sets of partition slots. Bit k of a set is slot k.
use Rattle.std.specs.Prelude.{ℕ, ◌==◌, List, [], ◌∷◌, filter, if◌then◌else◌}
use Rattle.std.specs.Int.{bit_at}
use Rattle.std.specs.List.{range_with_len}

-- the slots of a set, ascending: those below 16 whose bit is set
unfoldable pub slots_of : ℕ → List ℕ
slots_of set = filter (λ slot. bit_at set slot == 1) (range_with_len 0 16)

-- the one slot, where its bit is set
abbrev pub slots_at : ℕ → ℕ → List ℕ
slots_at set slot = if bit_at set slot == 1 then slot ∷ [] else []
