-- A test of each table of an array, item by item.
use Rattle.std.proofs.Common.{◌≡◌, ℕ, ◌+◌, ◌<◌, Bool, true, false, ◌&&◌, List, length, get_or, drop, refl, sym, ap, ◌∙◌}
use Rattle.std.specs.List.{list_all}
use Rattle.toml.specs.Data.{Data, string, integer, float, boolean, datetime, array, table, Items, item, Members}
use Rattle.toml.specs.View.{view, items_view}
use Rattle.toml.specs.declared.value.Value.{Value}
use Rattle.toml.proofs.Views.{items_view-drop}
use Rattle.toml_keys.specs.Keys.{if_table}
use Rattle.toml_keys.specs.Values.{tables_of}

-- the first item passes where it is a table, and so do the others
all-item : (test : Members → Bool) (d : Data) (ds : Items) → list_all test (tables_of (item d ds)) ≡ (if_table test d && list_all test (tables_of ds))
all-item test (string s) ds = refl
all-item test (integer z) ds = refl
all-item test (float x) ds = refl
all-item test (boolean b) ds = refl
all-item test (datetime dt) ds = refl
all-item test (array es) ds = refl
all-item test (table ms) ds = refl

all-drop : (test : Members → Bool) (vs : List Value) (i : ℕ) (v : Value) → i < length vs → v ≡ get_or vs i v
    → list_all test (tables_of (items_view (drop i vs))) ≡ (if_table test (view v) && list_all test (tables_of (items_view (drop (i + 1) vs))))
all-drop test vs i v within is =
    ap (λ ds. list_all test (tables_of ds)) (items_view-drop vs i v within)
    ∙ all-item test (view (get_or vs i v)) (items_view (drop (i + 1) vs))
    ∙ ap (λ w. if_table test (view w) && list_all test (tables_of (items_view (drop (i + 1) vs)))) (sym is)

-- once an item has passed, the test is that of the items after it
pub all_so_far : (test : Members → Bool) (vs : List Value) (i : ℕ) (v : Value) (whole : Bool) → i < length vs → v ≡ get_or vs i v
    → if_table test (view v) ≡ true → list_all test (tables_of (items_view (drop i vs))) ≡ whole
    → list_all test (tables_of (items_view (drop (i + 1) vs))) ≡ whole
all_so_far test vs i v whole within is passes before =
    sym (all-drop test vs i v within is ∙ ap (λ b. b && list_all test (tables_of (items_view (drop (i + 1) vs)))) passes) ∙ before

-- an item that fails fails the test of all
pub one_fails : (test : Members → Bool) (vs : List Value) (i : ℕ) (v : Value) (whole : Bool) → i < length vs → v ≡ get_or vs i v
    → if_table test (view v) ≡ false → list_all test (tables_of (items_view (drop i vs))) ≡ whole
    → false ≡ whole
one_fails test vs i v whole within is fails before =
    sym (all-drop test vs i v within is ∙ ap (λ b. b && list_all test (tables_of (items_view (drop (i + 1) vs)))) fails) ∙ before
