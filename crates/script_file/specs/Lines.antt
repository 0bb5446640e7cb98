-- How a script's bytes are cut into lines, and a line into words.
use Rattle.std.specs.Prelude.{ℕ, Bool, ◌||◌, ◌==◌, nat_lt, List, [], ◌∷◌, map, filter, length, if◌then◌else◌}
use Rattle.std.specs.List.{slice_split}
use Rattle.std.specs.Str.Lines.{strip_carriage_return}

-- the byte that ends a line
abbrev pub is_line_feed : ℕ → Bool
is_line_feed byte = byte == 10

-- a space or a tab
abbrev pub is_blank : ℕ → Bool
is_blank byte = byte == 32 || byte == 9

-- the text is not empty
abbrev pub has_bytes : List ℕ → Bool
has_bytes text = nat_lt 0 (length text)

-- the texts without the last one, where that is empty
abbrev pub without_empty_end : List (List ℕ) → List (List ℕ)
without_empty_end [] = []
without_empty_end (text ∷ []) = if has_bytes text then text ∷ [] else []
without_empty_end (text ∷ next ∷ texts) = text ∷ without_empty_end (next ∷ texts)

-- the lines of a script: each ends at a line feed, and what follows the last line feed is a line where
-- it isn't empty. One carriage return at a line's end is dropped.
abbrev pub lines_of : List ℕ → List (List ℕ)
lines_of bytes = map strip_carriage_return (without_empty_end (slice_split is_line_feed bytes))

-- the words of a line, which spaces and tabs separate
abbrev pub words_of : List ℕ → List (List ℕ)
words_of line = filter has_bytes (slice_split is_blank line)
