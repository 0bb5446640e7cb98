-- What the hands of workers hold together.
use Rattle.std.specs.Prelude.{◌≡◌, ℕ, zero, suc, ◌+◌, ◌-◌, ◌%◌, List, [], ◌∷◌, ◌++◌, length, take, drop, slice_index_or, slice_set}

module _ {X : Type 0} where
  -- the last item of a hand, if it has one
  abbrev pub last_of : List X → List X
  last_of items = drop (length items - 1) items

  -- the items before it
  abbrev pub but_last : List X → List X
  but_last items = take (length items - 1) items

  -- so many items, from number `number` on, after those that are there: each is the last one of the hand
  -- whose place is the remainder of its number by the count of hands, where that hand has one
  unfoldable pub gathered : (count more number : ℕ) → List X → List (List X) → List X
  gathered count zero number items hands = items
  gathered count (suc more) number items hands =
      let place = number % count in
      let held = slice_index_or hands place [] in
      gathered count more (number + 1) (items ++ last_of held) (slice_set hands place (but_last held))

  -- the last of these items was put at the end of the hand at a place
  pub record IsDealtTo (place : ℕ) (items rest : List X) (old new : List (List X)) : Type 0 where
    pub item : X
    pub was_last : items ≡ rest ++ item ∷ []
    pub handed : new ≡ slice_set old place (slice_index_or old place [] ++ item ∷ [])
