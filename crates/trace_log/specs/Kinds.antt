-- The kinds of rows, and sets of kinds.
use Rattle.std.specs.Prelude.{ℕ, Bool, ◌/◌, ◌%◌, ◌^◌, ◌==◌, List, codes}
use Rattle.trace_log.specs.declared.row.Kind.{Kind}
use Rattle.trace_log.specs.declared.row.Kind.TheVariants.{Word, Send, Recv, Step}

-- the word of a kind, in files and in traces
abbrev pub kind_text : Kind → List ℕ
kind_text Word = codes "word"
kind_text Send = codes "send"
kind_text Recv = codes "recv"
kind_text Step = codes "step"

-- the place of a kind among the rows of one cycle, and its bit in a set of kinds
abbrev pub phase_of : Kind → ℕ
phase_of Word = 0
phase_of Send = 1
phase_of Recv = 2
phase_of Step = 3

-- whether a set of kinds, one bit a phase, has a kind: 9 has `Word` and `Step`
abbrev pub has_kind : ℕ → Kind → Bool
has_kind kinds kind = kinds / 2 ^ phase_of kind % 2 == 1
