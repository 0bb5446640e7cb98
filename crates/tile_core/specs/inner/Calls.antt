-- What a call over all ends of a station does to each of them.
use Rattle.std.specs.Prelude.{◌≡◌, ℕ, List, Some, slice_get}

-- what stands at a place before and after, where both do, are related
abbrev pub AreRelated : {X : Type 0} → (X → X → Type 0) → List X → List X → Type 0
AreRelated {X} R old new = (place : ℕ) (before after : X) → slice_get old place ≡ Some before
    → slice_get new place ≡ Some after → R before after
