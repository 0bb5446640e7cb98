-- Helpers of the proofs: what a pass is made of between its calls, and what a step asks of a thread's hand.
use Rattle.std.specs.Prelude.{◌≡◌, ◌+◌, ◌++◌, ◌<◌, ◌^◌, ℕ, List, [], ◌∷◌, length, Bool, true, false, Option, Some, None}
use Rattle.atomic_table.specs.Seated.{TableId}
use Rattle.atomic_table.specs.Table.{Me}
use Rattle.turn_lock.specs.declared.view.View.{View}
use Rattle.turn_lock.specs.declared.view.Stage.{Stage}
use Rattle.turn_lock.specs.declared.view.Stage.TheVariants.{Away, Waits, Holds}
use Rattle.turn_lock.specs.Seen.{PassView}

-- the table has the words and the slot of a lock
abbrev pub IsBoard : TableId → Type 0
IsBoard table = (table.words ≡ 3) × (table.slots ≡ 1)

-- the seat of this name is at this table, which is that of a lock
abbrev pub IsAt : TableId → TableId → Type 0
IsAt table seat = (seat ≡ table) × IsBoard table

module _ {E : Type 0} where
  -- whether the turn is held
  abbrev pub has_turn : Stage E → Bool
  has_turn Away = false
  has_turn (Waits ticket) = false
  has_turn (Holds ticket entries counted) = true

module _ {B E : Type 0} where
  -- what callers see of a pass to this lock with this view
  abbrev pub seen_of : TableId → View B E → PassView B E
  seen_of lock view = record {
    seen = view.seen;
    mine = view.mine;
    entered = view.entered;
    share = view.share;
    lock = lock;
    base = view.base;
    in_turn = has_turn view.stage;
  }

  -- between two calls a pass holds no ticket and no slot; or it holds the turn and the emptied slot, and its
  -- number is that of the entries that the value was taken with
  abbrev pub IsBetween : {V : Type 0} → ℕ → Stage E → Me (Option V) (View B E) → Type 0
  IsBetween number Away me = me.1 ≡ []
  IsBetween number (Waits ticket) me = ⊥
  IsBetween number (Holds ticket entries false) me = ⊥
  IsBetween number (Holds ticket entries true) me =
      (me.1 ≡ (0, None) ∷ []) × (number ≡ length me.0.seen) × (entries ≡ me.0.seen)

  -- the view once the value was taken, with these entries
  abbrev pub taken_view : ℕ → List E → View B E → View B E
  taken_view ticket entries view = record view { stage = Holds ticket entries false }

  -- the view once a turn was entered, and these entries were found
  abbrev pub entered_view : ℕ → List E → View B E → View B E
  entered_view ticket entries view = record view {
    seen = entries;
    entered = view.entered + 1;
    stage = Holds ticket entries true;
  }

  -- the view once its turn was left, with an entry more
  abbrev pub left_view : List E → View B E → View B E
  left_view entries view = record view { seen = entries; mine = view.mine + 1; stage = Away }

  module _ {V : Type 0} where
    -- no ticket and no slot is held
    abbrev pub IsAway : Me (Option V) (View B E) → Type 0
    IsAway me = (me.1 ≡ []) × (me.0.stage ≡ Away) × (0 < me.0.share)

    -- this ticket is held, and no slot
    abbrev pub IsWaiting : ℕ → Me (Option V) (View B E) → Type 0
    IsWaiting ticket me = (me.1 ≡ []) × (me.0.stage ≡ Waits ticket)

    -- the value was taken, and `count` isn't read yet
    abbrev pub HasTaken : Me (Option V) (View B E) → Type 0
    HasTaken me = (ticket : ℕ) × (entries : List E) × (me.0.stage ≡ Holds ticket entries false)

    -- the turn is held, and no entry was counted in it
    abbrev pub IsInTurn : Me (Option V) (View B E) → Type 0
    IsInTurn me = (ticket : ℕ) × (me.0.stage ≡ Holds ticket me.0.seen true)

  module _ {V : Type 0} (base_of : V → B) (entries_of : V → List E) (base : B) where
    -- the turn is held, and the slot with a value that has one entry more than was seen
    abbrev pub CanCount : Me (Option V) (View B E) → Type 0
    CanCount me =
        (value : V) × (entry : E) × (me.1 ≡ (0, Some value) ∷ []) × IsInTurn me × (base_of value ≡ base)
        × (entries_of value ≡ me.0.seen ++ entry ∷ []) × (length (entries_of value) < 2 ^ 64)

    -- the turn is held, and the slot with a value whose entries are those that were seen
    abbrev pub CanPassOn : Me (Option V) (View B E) → Type 0
    CanPassOn me =
        (ticket : ℕ) × (entries : List E) × (value : V) × (me.1 ≡ (0, Some value) ∷ [])
        × (me.0.stage ≡ Holds ticket entries true)
        × (base_of value ≡ base) × (entries_of value ≡ me.0.seen)
