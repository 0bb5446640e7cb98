-- What each kind of step changes: `v` is the seat before it, with its view and the slots that it holds, `w` the
-- seat after it, and `found` the number that the step found in its word.
use Rattle.std.specs.Prelude.{◌≡◌, ◌≢◌, ◌-◌, ◌+◌, ◌≤◌, nat_le, if◌then◌else◌, ℕ, List, [], ◌∷◌, length, true, false, Option, Some, None}
use mathlib.Core.List.{IsPrefix}
use Rattle.atomic_table.specs.Table.{Me}
use Rattle.turn_lock.specs.declared.view.View.{View}
use Rattle.turn_lock.specs.declared.view.Stage.TheVariants.{Away, Waits, Holds}
use Rattle.turn_lock.specs.Seen.{longer}

module _ {E : Type 0} where
  -- the other list than the longer one
  abbrev pub shorter : List E → List E → List E
  shorter xs ys = if nat_le (length xs) (length ys) then xs else ys

module _ {B E : Type 0} where
  -- a ticket was drawn: the number that was found
  abbrev pub Drew : {S : Type 0} → Me S (View B E) → ℕ → Me S (View B E) → Type 0
  Drew v found w = (w.1 ≡ v.1) × (w.0 ≡ record v.0 { stage = Waits found; entered = v.0.entered + 1 })

  module _ {V : Type 0} (base_of : V → B) (entries_of : V → List E) where
    -- the turn has come, and the value was taken, whose entries begin with those that were seen
    abbrev pub Took : Me (Option V) (View B E) → ℕ → Me (Option V) (View B E) → Type 0
    Took v ticket w =
        (value : V) × (w.1 ≡ (0, Some value) ∷ v.1) × (v.0.base ≡ Some (base_of value))
        × IsPrefix v.0.seen (entries_of value) × (w.0 ≡ record v.0 { stage = Holds ticket (entries_of value) false })

    -- `serving` was read: where it is the ticket, the value was taken; else nothing changed
    abbrev pub Looked : Me (Option V) (View B E) → ℕ → Me (Option V) (View B E) → Type 0
    Looked v found w =
        (ticket : ℕ) → v.0.stage ≡ Waits ticket
        → (found ≡ ticket → Took v ticket w) × (found ≢ ticket → w ≡ v)

  -- `count` was read after the value was taken: the entries that it was taken with are all there are, and are
  -- seen now
  abbrev pub Learnt : {S : Type 0} → Me S (View B E) → ℕ → Me S (View B E) → Type 0
  Learnt v found w =
      (ticket : ℕ) (entries : List E) → v.0.stage ≡ Holds ticket entries false
      → (w.1 ≡ v.1) × (found ≡ length entries)
      × (w.0 ≡ record v.0 { seen = entries; stage = Holds ticket entries true })

  module _ {V : Type 0} (base_of : V → B) (entries_of : V → List E) where
    -- one more entry was counted, that of the value that is held
    abbrev pub Counted : Me (Option V) (View B E) → ℕ → Me (Option V) (View B E) → Type 0
    Counted v found w =
        (value : V) → v.1 ≡ (0, Some value) ∷ []
        → (w.1 ≡ v.1) × (w.0 ≡ record v.0 { seen = entries_of value; mine = v.0.mine + 1 })

  -- the slot, with the value in it, is home again, and the turn was passed on
  abbrev pub PassedOn : {S : Type 0} → Me S (View B E) → ℕ → Me S (View B E) → Type 0
  PassedOn v found w = (w.1 ≡ []) × (w.0 ≡ record v.0 { stage = Away })

  -- of the lists of a join the shorter one begins the longer one
  abbrev pub Compared : {S : Type 0} → Me S (View B E) → ℕ → Me S (View B E) → Type 0
  Compared v found w = (w ≡ v) × (length v.0.met ≤ length v.0.seen → IsPrefix v.0.met v.0.seen)

  -- a view was split: what the first keeps
  abbrev pub kept_view : View B E → View B E
  kept_view v = record v { share = v.share - 1 }

  -- and what the second, that of a new seat, has
  abbrev pub split_view : View B E → View B E
  split_view v = record v { share = 1; mine = 0; entered = 0; stage = Away }

  -- two views were joined: what the first has then
  abbrev pub joined_view : View B E → View B E → View B E
  joined_view v w = record v {
    seen = longer v.seen w.seen;
    met = shorter v.seen w.seen;
    mine = v.mine + w.mine;
    entered = v.entered + w.entered;
    share = v.share + w.share;
  }

  -- and the second, which is spent
  abbrev pub spent_view : View B E
  spent_view = record {
    base = None;
    start = 0;
    seen = [];
    met = [];
    mine = 0;
    entered = 0;
    share = 0;
    stage = Away;
  }
