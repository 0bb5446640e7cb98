-- Rows of the slot tables, some slots earlier.
use Rattle.std.proofs.Common.{◌≡◌, ℕ, zero, suc, ◌+◌, ◌-◌, ◌%◌, ◌<◌, sym, ap, ◌∙◌, arith}
use Rattle.std.proofs.Math.Nat.{mod-add-mod, add-mod_right, mod-eq_of_lt}

-- equal rows are equal a slot earlier
pub row_before : (table a b : ℕ) → 0 < table → (a + 1) % table ≡ (b + 1) % table → a % table ≡ b % table
row_before table a b some same = sym (back a) ∙ ap (λ n. (n + (table - 1)) % table) same ∙ back b
  where
    back : (c : ℕ) → ((c + 1) % table + (table - 1)) % table ≡ c % table
    back c =
        let e : c + 1 + (table - 1) ≡ c + table = omega arith in
        mod-add-mod (c + 1) table (table - 1) ∙ ap (λ n. n % table) e ∙ add-mod_right c table

-- a row below the number of rows is itself
pub row_is : (table a : ℕ) → a < table → a % table ≡ a
row_is table a low = mod-eq_of_lt low

-- and any number of slots earlier
pub rows_before : (table a b n : ℕ) → 0 < table → (a + n) % table ≡ (b + n) % table → a % table ≡ b % table
rows_before table a b zero some same =
    let e : a + 0 ≡ a = omega arith in
    let f : b + 0 ≡ b = omega arith in
    sym (ap (λ n. n % table) e) ∙ same ∙ ap (λ n. n % table) f
rows_before table a b (suc n) some same =
    let e : a + n + 1 ≡ a + suc n = omega arith in
    let f : b + n + 1 ≡ b + suc n = omega arith in
    rows_before table a b n some (row_before table (a + n) (b + n) some (ap (λ m. m % table) e ∙ same ∙ sym (ap (λ m. m % table) f)))

-- the row of so many slots after another is that of the sum
pub row_later : (table a n : ℕ) → (a % table + n) % table ≡ (a + n) % table
row_later table a n = mod-add-mod a table n
