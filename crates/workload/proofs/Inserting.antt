-- The members of a map after an insertion.
use Rattle.std.proofs.Common.{◌≡◌, List, [], ◌∷◌, String, Global, Ordering, Less, Equal, Greater, string_bytes, refl, ◌∙◌}
use Rattle.std.specs.BTreeMap.{insert_entry}
use Rattle.std.specs.Ordering.{match_ordering}
use Rattle.std.specs.String.{string_cmp}
use Rattle.toml.specs.View.{view, members_view}
use Rattle.toml.specs.declared.value.Value.{Value}
use Rattle.workload.specs.inner.Inserted.{with_key}

-- the entries of one of three lists are those that the comparison picks
members_of_match : (o : Ordering) (a b c : List (String Global × Value)) → members_view (match_ordering o a b c) ≡ match_ordering o (members_view a) (members_view b) (members_view c)
members_of_match Less a b c = refl
members_of_match Equal a b c = refl
members_of_match Greater a b c = refl

-- an entry that is inserted into a map is a key more of its members
pub members_of_insert : (entries : List (String Global × Value)) (key : String Global) (value : Value) → members_view (insert_entry string_cmp entries key value) ≡ with_key (string_bytes key) (view value) (members_view entries)
members_of_insert [] key value = refl
members_of_insert (entry ∷ entries) key value = members_of_match (string_cmp key entry.0) _ _ _ ∙ rw (members_of_insert entries key value)
