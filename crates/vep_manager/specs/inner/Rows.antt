-- Rows with fixed rooms in one pool.
use Rattle.std.specs.Prelude.{◌≡◌, ℕ, ◌+◌, ◌<◌, ◌≤◌, Bool, List, length, map, take, drop, slice_index_or, if◌then◌else◌, All, AllPairs}
use Rattle.bundle_model.specs.declared.resource.Resource.{Resource}
use Rattle.vep_manager.specs.declared.owners.held.Held.{Held}
use Rattle.vep_manager.specs.declared.owners.rows.Head.{Head}
use Rattle.vep_manager.specs.inner.Held.{held_count}

-- the entries of a row
abbrev pub row_in : List Held → Head → List Held
row_in pool head = take head.len (drop head.begin pool)

-- the row lies in the pool, and has room for its entries
pub record IsInPool (pool : List Held) (head : Head) : Type 0 where
  pub fits : head.len ≤ head.room
  pub inside : head.begin + head.room ≤ length pool

-- each row lies in the pool, and ends before the next begins
pub record IsLaidOut (heads : List Head) (pool : List Held) : Type 0 where
  pub inside : All (IsInPool pool) heads
  pub apart : AllPairs (λ one other. one.begin + one.room ≤ other.begin) heads

-- empty rows with these rooms, one behind the other, in so many places
pub record AreHeads (rooms : List ℕ) (size : ℕ) (heads : List Head) : Type 0 where
  pub rooms_are : map (λ head. head.room) heads ≡ rooms
  pub empty : All (λ head. head.len ≡ 0) heads
  pub inside : All (λ head. head.begin + head.room ≤ size) heads
  pub apart : AllPairs (λ one other. one.begin + one.room ≤ other.begin) heads

-- the pools are the same but for a row's entries and the place behind them
pub record IsSameAround (head : Head) (old new : List Held) : Type 0 where
  pub len : length new ≡ length old
  pub before : (k : ℕ) (d : Held) → k < head.begin → slice_index_or new k d ≡ slice_index_or old k d
  pub behind : (k : ℕ) (d : Held) → head.begin + head.len < k → slice_index_or new k d ≡ slice_index_or old k d

-- the new row holds what the old one did, and a resource by a grant
abbrev pub HoldsOneMore : Resource → ℕ → List Held → List Held → Type 0
HoldsOneMore resource grant old new = (test : Resource → ℕ → Bool)
    → held_count test new ≡ held_count test old + (if test resource grant then 1 else 0)
