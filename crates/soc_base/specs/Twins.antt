-- Lists in which no two items are alike.
use Rattle.std.specs.Prelude.{Bool, false, ◌||◌, List, [], ◌∷◌}
use Rattle.std.specs.List.{list_any}

-- two items of the list, at different places, are alike
abbrev pub has_twin : {Item : Type 0} → (Item → Item → Bool) → List Item → Bool
has_twin alike [] = false
has_twin alike (item ∷ items) = list_any (alike item) items || has_twin alike items
