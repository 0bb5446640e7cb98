-- Lists whose items all pass a test, or none of which does.
use Rattle.std.proofs.Common.{◌≡◌, ℕ, zero, suc, ◌<◌, Bool, true, false, cond, ◌||◌, List, [], ◌∷◌, length, get_or, Option, Some, None, refl, arith}
use Rattle.std.specs.List.{list_all}
use Rattle.std.proofs.lemmas.Bool.{and_parts}

-- an item of a list whose items all pass
pub all_at : {Item : Type 0} (test : Item → Bool) (items : List Item) (place : ℕ) (other : Item) → list_all test items ≡ true → place < length items → test (get_or items place other) ≡ true
all_at test [] place other all inside = absurd (omega (arith, inside))
all_at test (item ∷ items) zero other all inside = (and_parts (test item) (list_all test items) all).0
all_at test (item ∷ items) (suc place) other all inside =
    all_at test items place other (and_parts (test item) (list_all test items) all).1 (omega arith)

-- what is not found first, and not found in the rest
pub passed_over : {Item : Type 0} (found : Bool) (item : Item) (rest : Option Item) → cond found (Some item) rest ≡ None → (found ≡ false) × (rest ≡ None)
passed_over true item rest none = cc
passed_over false item rest none = (refl, none)

-- neither of two tests passes
pub neither : (one other : Bool) → (one || other) ≡ false → (one ≡ false) × (other ≡ false)
neither true other none = cc
neither false other none = (refl, none)
