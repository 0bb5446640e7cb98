-- The row after a slot's row.
use Rattle.std.proofs.Common.{◌≡◌, ℕ, ◌+◌, ◌%◌, ◌<◌, arith, add-one}
use Rattle.std.proofs.Math.Nat.{suc-mod, mod_self}

-- the row after the last one is the first
pub first_again : (slot row n : ℕ) → row ≡ slot % n → row + 1 ≡ n → (slot + 1) % n ≡ 0
first_again slot row n is last = rw (add-one, suc-mod, ← is, ← add-one, last) (mod_self n)

-- else it is the next one
pub one_more : (slot row n : ℕ) → row ≡ slot % n → row + 1 < n → (slot + 1) % n ≡ row + 1
one_more slot row n is less = grind arith
