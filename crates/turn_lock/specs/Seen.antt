-- What callers see of a lock and of a pass.
use Rattle.std.specs.Prelude.{◌≡◌, ◌⊎◌, ◌-◌, ◌+◌, ◌++◌, nat_le, if◌then◌else◌, ℕ, List, [], ◌∷◌, length, Bool, true, false, Option, Some}
use Rattle.atomic_table.specs.Seated.{TableId}

-- the share of a lock's first pass: that of all its passes together
abbrev pub whole_share : ℕ
whole_share = 1048576

-- a lock: its name, the base of its value, and how many entries the value had when the lock was made
pub record LockView (B : Type 0) : Type 0 where
  pub lock : TableId
  pub base : B
  pub start : ℕ

-- a pass: the entries that it has seen, how many of them it added, how many turns it has entered, its share,
-- the lock that made it, with the base of that lock's value, and whether it holds the turn
pub record PassView (B E : Type 0) : Type 0 where
  pub seen : List E
  pub mine : ℕ
  pub entered : ℕ
  pub share : ℕ
  pub lock : TableId
  pub base : Option B
  pub in_turn : Bool

module _ {E : Type 0} where
  -- the longer of two lists; the second where they are of one length
  abbrev pub longer : List E → List E → List E
  longer xs ys = if nat_le (length xs) (length ys) then ys else xs

  -- these entries are those from before, or have one more at their end
  abbrev pub IsAtMostOneMore : List E → List E → Type 0
  IsAtMostOneMore before entries = (entries ≡ before) ⊎ ((entry : E) × (entries ≡ before ++ entry ∷ []))

module _ {B E : Type 0} where
  -- the pass is of this lock
  abbrev pub IsPassOf : LockView B → PassView B E → Type 0
  IsPassOf lock pass = (pass.lock ≡ lock.lock) × (pass.base ≡ Some lock.base)

  -- the pass is of this lock, and holds no turn
  abbrev pub RestsAt : LockView B → PassView B E → Type 0
  RestsAt lock pass = IsPassOf lock pass × (pass.in_turn ≡ false)

  -- the first pass of a lock
  abbrev pub first_pass : LockView B → List E → PassView B E
  first_pass lock entries = record {
    seen = entries;
    mine = 0;
    entered = 0;
    share = whole_share;
    lock = lock.lock;
    base = Some lock.base;
    in_turn = false;
  }

  -- the pass once it has entered a turn, and found these entries
  abbrev pub entered_with : List E → PassView B E → PassView B E
  entered_with entries pass = record pass { seen = entries; entered = pass.entered + 1; in_turn = true }

  -- the pass once it has left its turn, with these entries
  abbrev pub left_with : List E → PassView B E → PassView B E
  left_with entries pass = record pass {
    seen = entries;
    mine = pass.mine + (length entries - length pass.seen);
    in_turn = false;
  }

  -- the pass once another was split off it
  abbrev pub kept_part : PassView B E → PassView B E
  kept_part pass = record pass { share = pass.share - 1 }

  -- the pass that was split off
  abbrev pub split_part : PassView B E → PassView B E
  split_part pass = record pass { share = 1; mine = 0; entered = 0 }

  -- two passes made one: the longer view, and the sums
  abbrev pub joined_passes : PassView B E → PassView B E → PassView B E
  joined_passes pass other = record pass {
    seen = longer pass.seen other.seen;
    mine = pass.mine + other.mine;
    entered = pass.entered + other.entered;
    share = pass.share + other.share;
  }
