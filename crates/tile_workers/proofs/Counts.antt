-- Counts that rise, up to a greatest one.
use Rattle.std.proofs.Common.{◌≡◌, ℕ, ◌+◌, ◌-◌, ◌^◌, ◌<◌, ◌≤◌, ◌⊎◌, min, inl, inr, arith}
use Rattle.std.proofs.Math.Nat.{eq-or-lt_of_le}
use Rattle.tile_workers.specs.Work.{RoseBy, Rises}

-- as RoseBy, for any greatest count
abbrev Rose : ℕ → ℕ → ℕ → ℕ → Type 0
Rose most least old new = (old + least ≤ new) ⊎ ((old ≤ new) × (most ≤ new))

more_by : (most least old mid new : ℕ) → new ≡ min (mid + 1) most → (mid ≡ most) ⊎ (mid < most)
    → Rose most least old mid → Rose most (least + 1) old new
more_by most least old mid new is (inl at) (inl rose) = inr (omega arith, omega arith)
more_by most least old mid new is (inl at) (inr stays) = let low = stays.0 in inr (omega arith, omega arith)
more_by most least old mid new is (inr low) (inl rose) = inl (omega arith)
more_by most least old mid new is (inr low) (inr stays) = let at = stays.1 in absurd (omega arith)

-- one more
pub rose_more : (least old mid new : ℕ) → RoseBy least old mid → mid ≤ 2 ^ 64 - 1
    → new ≡ min (mid + 1) (2 ^ 64 - 1) → RoseBy (least + 1) old new
rose_more least old mid new rose low is = more_by (2 ^ 64 - 1) least old mid new is (eq-or-lt_of_le low) rose

then_by : (most least old mid new : ℕ) → Rose most least old mid → Rose most 1 mid new
    → Rose most (least + 1) old new
then_by most least old mid new (inl one) (inl other) = inl (omega arith)
then_by most least old mid new (inl one) (inr stays) =
    let up = stays.0 in let at = stays.1 in inr (omega arith, at)
then_by most least old mid new (inr stays) (inl other) =
    let up = stays.0 in let at = stays.1 in inr (omega arith, omega arith)
then_by most least old mid new (inr stays) (inr again) =
    let up = stays.0 in let on = again.0 in inr (omega arith, again.1)

-- one rise more
pub rose_then : (least old mid new : ℕ) → RoseBy least old mid → Rises mid new → RoseBy (least + 1) old new
rose_then least old mid new one other = then_by (2 ^ 64 - 1) least old mid new one other

fell_by : (most least old new : ℕ) → Rose most least old new → Rose most 0 old new
fell_by most least old new (inl rose) = inl (omega arith)
fell_by most least old new (inr stays) = inr stays

-- none of it counts any more
pub rose_none : (least old new : ℕ) → RoseBy least old new → RoseBy 0 old new
rose_none least old new rose = fell_by (2 ^ 64 - 1) least old new rose

up_by : (most least old mid new : ℕ) → Rose most least old mid → mid ≤ new → Rose most 0 old new
up_by most least old mid new (inl rose) up = inl (omega arith)
up_by most least old mid new (inr stays) up = let at = stays.1 in let low = stays.0 in inr (omega arith, omega arith)

-- nor after it went on by any number
pub rose_up : (least old mid new : ℕ) → RoseBy least old mid → mid ≤ new → RoseBy 0 old new
rose_up least old mid new rose up = up_by (2 ^ 64 - 1) least old mid new rose up
