-- What holds between any two steps of any threads. Words: 0 is `ticket`, the number that is drawn next; 1 is
-- `serving`, the number whose turn it is; 2 is `count`. Slot 0 has the value.
use Rattle.std.specs.Prelude.{◌≡◌, ℕ, ◌+◌, ◌%◌, ◌^◌, ◌<◌, List, [], ◌∷◌, length, slice_index, true, false, Option, Some, None}
use mathlib.Core.Option.{some, none}
use mathlib.Core.List.{IsPrefix}
use lib.ListN.{get_elem?}
use Rattle.atomic_table.specs.Table.{State}
use Rattle.turn_lock.specs.declared.view.View.{View}
use Rattle.turn_lock.specs.declared.view.Stage.{Stage}
use Rattle.turn_lock.specs.declared.view.Stage.TheVariants.{Away, Waits, Holds}
use Rattle.turn_lock.specs.Seen.{whole_share, IsAtMostOneMore}

module _ {E : Type 0} where
  -- this is the ticket that is held
  abbrev pub HasTicket : ℕ → Stage E → Type 0
  HasTicket ticket Away = ⊥
  HasTicket ticket (Waits held) = held ≡ ticket
  HasTicket ticket (Holds held entries counted) = held ≡ ticket

  -- the turn is known to be the view's own
  abbrev pub HasTurn : Stage E → Type 0
  HasTurn Away = ⊥
  HasTurn (Waits ticket) = ⊥
  HasTurn (Holds ticket entries counted) = Unit {0}

module _ {B E : Type 0} where
  -- the view of the first pass
  abbrev pub first_view : B → List E → View B E
  first_view base entries = record {
    base = Some base;
    start = length entries;
    seen = entries;
    met = entries;
    mine = 0;
    entered = 0;
    share = whole_share;
    stage = Away;
  }

  -- the sum of a number over all views
  abbrev pub total : (View B E → ℕ) → List (View B E) → ℕ
  total number [] = 0
  total number (view ∷ views) = number view + total number views

  -- the entries that a held value was taken with are the full list, until its holder counts one more; and once
  -- the holder has read `count`, the entries that it has seen are the full list
  abbrev pub TakenWith : List E → View B E → Stage E → Type 0
  TakenWith full view Away = Unit {0}
  TakenWith full view (Waits ticket) = Unit {0}
  TakenWith full view (Holds ticket entries false) = entries ≡ full
  TakenWith full view (Holds ticket entries true) = (view.seen ≡ full) × IsAtMostOneMore entries full

  -- what holds of one view, that of the seat `id`, where the full list, the line and `serving` are these
  pub record Stands (base : B) (start : ℕ) (full : List E) (line : List ℕ) (serving : ℕ) (id : ℕ) (view : View B E)
      : Type 0 where
    -- a view without a share was joined into another: it has nothing left
    pub spent : view.share ≡ 0
        → (view.base ≡ None) × (view.stage ≡ Away) × (view.seen ≡ []) × (view.mine ≡ 0)
    -- every other view knows the base and the number of entries at first, and has seen a beginning of the full list
    pub unspent : 0 < view.share
        → (view.base ≡ Some base) × (view.start ≡ start) × IsPrefix view.seen full × IsPrefix view.met full
    -- who stands at a place in line holds the ticket that is served after those before it, modulo 2^64
    pub in_line : (place : ℕ) → get_elem? line place ≡ some id
        → HasTicket ((serving + place) % 2 ^ 64) view.stage
    -- and whoever holds a ticket stands in line
    pub only_in_line : (ticket : ℕ) → HasTicket ticket view.stage
        → (place : ℕ) × (get_elem? line place ≡ some id)
    -- whoever knows the turn to be its own is the first in line, so that its ticket is `serving`
    pub first_in_line : HasTurn view.stage → get_elem? line 0 ≡ some id
    -- what it knows of the entries, where it holds the value
    pub taken : TakenWith full view view.stage

  module _ {V : Type 0} (base_of : V → B) (entries_of : V → List E) where
    -- the slot has the value, with the base and the full list
    abbrev pub IsHome : B → List E → Option V → Type 0
    IsHome base full None = ⊥
    IsHome base full (Some value) = (base_of value ≡ base) × (entries_of value ≡ full)

    -- the rule: the base and the number of entries at first are these
    pub record Ordered (base : B) (start : ℕ) (s : State (Option V) (View B E)) : Type 0 where
      -- the full list
      pub full : List E
      -- the seats that hold a ticket, the one that is served first at its head
      pub line : List ℕ
      pub three_words : length s.words ≡ 3
      pub one_slot : length s.homes ≡ 1
      -- `ticket` is `serving` and the number of tickets held, modulo 2^64
      pub tickets : slice_index s.words 0 ≡ (slice_index s.words 1 + length line) % 2 ^ 64
      -- `count` is the length of the full list, which fits in 64 bits
      pub count : slice_index s.words 2 ≡ length full
      pub fits : length full < 2 ^ 64
      -- no seat stands in line twice, and each one that does has a view
      pub distinct : (i j id : ℕ) → get_elem? line i ≡ some id → get_elem? line j ≡ some id → i ≡ j
      pub known : (i id : ℕ) → get_elem? line i ≡ some id
          → (view : View B E) × (get_elem? s.views id ≡ some view)
      -- the entries at first and those that the views added are all the entries
      pub mine : start + total (λ view. view.mine) s.views ≡ length full
      -- the shares are the whole share
      pub shares : total (λ view. view.share) s.views ≡ whole_share
      pub each : (id : ℕ) (view : View B E) → get_elem? s.views id ≡ some view
          → Stands base start full line (slice_index s.words 1) id view
      -- some view has seen the full list
      pub longest : (id : ℕ) × (view : View B E) × (get_elem? s.views id ≡ some view)
          × (0 < view.share) × (view.seen ≡ full)
      -- where the value is home, it has the base and the full list
      pub home : (slot : Option V) → get_elem? s.homes 0 ≡ some (some slot) → IsHome base full slot
      -- it isn't home exactly where a view knows the turn to be its own
      pub out : (id : ℕ) (view : View B E) → get_elem? s.views id ≡ some view → HasTurn view.stage
          → get_elem? s.homes 0 ≡ some none
      pub held : get_elem? s.homes 0 ≡ some none
          → (id : ℕ) × (view : View B E) × (get_elem? s.views id ≡ some view) × HasTurn view.stage
