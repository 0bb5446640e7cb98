-- Bit sets of slots and of kinds of rows. Bit k of a set of slots is slot k.
use Rattle.std.specs.Prelude.{ℕ, ℤ, ◌+◌, ◌^◌, bit_or, Bool, List, fold, nat_abs, if◌then◌else◌}
use Rattle.std.specs.Str.{bytes_eq}
use Rattle.std.specs.List.{list_any}
use Rattle.trace_log.specs.Kinds.{kind_text, phase_of}
use Rattle.trace_log.specs.declared.row.Kind.{Kind}
use Rattle.trace_log.specs.declared.row.Kind.TheVariants.{Word, Send, Recv, Step}

-- the set of these slots
abbrev pub slot_set : List ℤ → ℕ
slot_set slots = fold (λ set slot. bit_or set (2 ^ nat_abs slot)) 0 slots

-- whether a name stands in a list
abbrev pub names : List (List ℕ) → List ℕ → Bool
names list name = list_any (λ other. bytes_eq other name) list

-- the set that has a kind of rows alone, where its word is among these names
abbrev pub kind_bit : List (List ℕ) → Kind → ℕ
kind_bit list kind = if names list (kind_text kind) then 2 ^ phase_of kind else 0

-- the set of these kinds of rows, one bit a kind, by its phase
abbrev pub kind_set : List (List ℕ) → ℕ
kind_set list = kind_bit list Word + kind_bit list Send + kind_bit list Recv + kind_bit list Step
