-- A table with a key more.
use Rattle.std.specs.Prelude.{ℕ, List}
use Rattle.std.specs.Ordering.{nat_cmp, match_ordering}
use Rattle.std.specs.Cmp.Lexicographic.{slice_cmp}
use Rattle.toml.specs.Data.{Data, Members, no_members, member}

-- the members with this value at the key: a key that is there takes the value, and a new one stands
-- where the order of the keys' bytes has it
abbrev pub with_key : List ℕ → Data → Members → Members
with_key key value no_members = member key value no_members
with_key key value (member first at_first others) = match_ordering (slice_cmp nat_cmp key first)
    (member key value (member first at_first others))
    (member first value others)
    (member first at_first (with_key key value others))
