-- The keys that a table of a file may have: which names, of which shape, and whether each is required.
use Rattle.std.specs.Prelude.{ℕ, Bool, true, false, not, ◌&&◌, List, Option, Some, None}
use Rattle.std.specs.List.{list_all, list_any}
use Rattle.std.specs.Str.{bytes_eq}
use Rattle.toml.specs.Data.{Data, string, integer, array, table, Items, no_items, item, Members, no_members, member, get_member}
use Rattle.toml_keys.specs.declared.key.Kind.{Kind}
use Rattle.toml_keys.specs.declared.key.Kind.TheVariants as kind
use Rattle.toml_keys.specs.declared.key.Shape.{Shape}
use Rattle.toml_keys.specs.declared.key.Shape.TheVariants as shape

-- an integer
abbrev pub integer_shape : Shape
integer_shape = shape.One kind.Integer

-- a string
abbrev pub text_shape : Shape
text_shape = shape.One kind.Text

-- a table
abbrev pub table_shape : Shape
table_shape = shape.One kind.Table

-- an array of integers
abbrev pub integers_shape : Shape
integers_shape = shape.ListOf kind.Integer

-- an array of strings
abbrev pub texts_shape : Shape
texts_shape = shape.ListOf kind.Text

-- an array of tables
abbrev pub tables_shape : Shape
tables_shape = shape.ListOf kind.Table

-- a key of a table
pub record KeyRule : Type 0 where
  pub name : List ℕ
  pub shape : Shape
  pub required : Bool

-- a key that must be there
abbrev pub required_key : List ℕ → Shape → KeyRule
required_key name form = record { name = name; shape = form; required = true }

-- a key that may be left out
abbrev pub optional_key : List ℕ → Shape → KeyRule
optional_key name form = record { name = name; shape = form; required = false }

-- a value is of a kind
abbrev pub is_of : Kind → Data → Bool
is_of kind.Integer (integer z) = true
is_of kind.Text (string s) = true
is_of kind.Table (table ms) = true
is_of _ _ = false

-- each item of an array is of a kind
abbrev pub all_of : Kind → Items → Bool
all_of k no_items = true
all_of k (item d ds) = is_of k d && all_of k ds

-- a value has a shape
abbrev pub fits : Shape → Data → Bool
fits (shape.One k) d = is_of k d
fits (shape.ListOf k) (array ds) = all_of k ds
fits (shape.ListOf k) _ = false

-- what stands at a key, if anything, is as its rule says
abbrev pub fits_rule : KeyRule → Option Data → Bool
fits_rule key None = not key.required
fits_rule key (Some d) = fits key.shape d

-- a key is in the list
abbrev pub is_key : List KeyRule → List ℕ → Bool
is_key keys name = list_any (λ key. bytes_eq key.name name) keys

-- each key of a table is in the list
unfoldable pub has_only : List KeyRule → Members → Bool
has_only keys no_members = true
has_only keys (member name d ms) = is_key keys name && has_only keys ms

-- a table has each required key of the list, and what stands at a key of the list has its shape
unfoldable pub has_types : List KeyRule → Members → Bool
has_types keys ms = list_all (λ key. fits_rule key (get_member key.name ms)) keys

-- a value, if it is a table, passes a test of its members
abbrev pub if_table : (Members → Bool) → Data → Bool
if_table test (table ms) = test ms
if_table test _ = true
