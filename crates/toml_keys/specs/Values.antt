-- What stands at a key of a table. Each reading has a value also where the key is missing or its
-- value is of another shape, so a reader first tests `has_types`.
use Rattle.std.specs.Prelude.{ℕ, ℤ, pos, List, [], ◌∷◌, option_and_then, unwrap_or}
use Rattle.toml.specs.Data.{string, integer, table, Items, no_items, item, Members, no_members, get_member, as_integer, as_str, as_array, as_table}

-- the integer at a key, or else a default
unfoldable pub integer_or : List ℕ → ℤ → Members → ℤ
integer_or name default ms = unwrap_or (option_and_then as_integer (get_member name ms)) default

-- the integer at a key that holds one
abbrev pub integer_at : List ℕ → Members → ℤ
integer_at name ms = integer_or name (pos 0) ms

-- the text at a key that holds one
unfoldable pub text_at : List ℕ → Members → List ℕ
text_at name ms = unwrap_or (option_and_then as_str (get_member name ms)) []

-- the members of the table at a key, or none
unfoldable pub table_at : List ℕ → Members → Members
table_at name ms = unwrap_or (option_and_then as_table (get_member name ms)) no_members

-- the items of the array at a key, or none
unfoldable pub items_at : List ℕ → Members → Items
items_at name ms = unwrap_or (option_and_then as_array (get_member name ms)) no_items

-- the integers among the items
abbrev pub integers_of : Items → List ℤ
integers_of no_items = []
integers_of (item (integer z) ds) = z ∷ integers_of ds
integers_of (item _ ds) = integers_of ds

-- the texts among the items
abbrev pub texts_of : Items → List (List ℕ)
texts_of no_items = []
texts_of (item (string s) ds) = s ∷ texts_of ds
texts_of (item _ ds) = texts_of ds

-- the tables among the items
abbrev pub tables_of : Items → List Members
tables_of no_items = []
tables_of (item (table ms) ds) = ms ∷ tables_of ds
tables_of (item _ ds) = tables_of ds

-- the integers of the array at a key, in the array's order
unfoldable pub integers_at : List ℕ → Members → List ℤ
integers_at name ms = integers_of (items_at name ms)

-- the texts of the array at a key, in the array's order
unfoldable pub texts_at : List ℕ → Members → List (List ℕ)
texts_at name ms = texts_of (items_at name ms)

-- the tables of the array at a key, in the array's order
unfoldable pub tables_at : List ℕ → Members → List Members
tables_at name ms = tables_of (items_at name ms)
