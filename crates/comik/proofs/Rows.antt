-- What a row does to the owners and to the parts that are held and next.
use Rattle.std.proofs.Common.{◌≡◌, ℕ, ◌-◌, ◌==◌, Bool, true, false, cond, nat_lt, Option, Some, None, refl, sym, ap, ◌∙◌, inl, inr, arith}
use Rattle.std.proofs.lemmas.Bool.{cases_lt, ne_eqb, lt-ltb, le-ltb}
use Rattle.comik.specs.Kernel.{KernelState, owner_at}
use Rattle.comik.specs.Table.{latched, swapped, saved_for, saved, restored_for, restored, kernel_row}

-- what stays when words are copied
pub record SameParts (k after : KernelState) : Type 0 where
  pub times : after.times ≡ k.times
  pub owners : after.owners ≡ k.owners
  pub held : after.held ≡ k.held
  pub next : after.next ≡ k.next

saved_parts : (k : KernelState) (n : ℕ) (held : Option ℕ) → SameParts k (saved_for k n held)
saved_parts k n None = record { times = refl; owners = refl; held = refl; next = refl }
saved_parts k n (Some part) = record { times = refl; owners = refl; held = refl; next = refl }

restored_parts : (k : KernelState) (n : ℕ) (held : Option ℕ) → SameParts k (restored_for k n held)
restored_parts k n None = record { times = refl; owners = refl; held = refl; next = refl }
restored_parts k n (Some part) = record { times = refl; owners = refl; held = refl; next = refl }

-- the parts after a row
pub record RowParts (k : KernelState) (served offset : ℕ) (after : KernelState) : Type 0 where
  pub times : after.times ≡ k.times
  pub owners : after.owners ≡ k.owners
  pub held : after.held ≡ cond (offset == 33) k.next k.held
  pub next : after.next ≡ cond (offset == 0) (owner_at k served) k.next

parts_low : (k : KernelState) (served o : ℕ) → ((o == 33) ≡ false) → RowParts k served o (saved (cond (o == 0) (latched k served) k) o)
parts_low k served o other =
    let P : Bool → Type 0 = λ b. (b ≡ (o == 0)) → RowParts k served o (saved (cond b (latched k served) k) o) in
    let both : (b : Bool) → P b = λ b. elim b as P [
      | true ↦ λ e.
          let same = saved_parts (latched k served) o k.held in
          record { times = same.times; owners = same.owners; held = same.held ∙ sym (ap (λ t. cond t k.next k.held) other); next = same.next ∙ ap (λ t. cond t (owner_at k served) k.next) e }
      | false ↦ λ e.
          let same = saved_parts k o k.held in
          record { times = same.times; owners = same.owners; held = same.held ∙ sym (ap (λ t. cond t k.next k.held) other); next = same.next ∙ ap (λ t. cond t (owner_at k served) k.next) e }
    ] in
    both (o == 0) refl

parts_high : (k : KernelState) (served o : ℕ) → ((o == 0) ≡ false) → RowParts k served o (restored (cond (o == 33) (swapped k) k) (o - 33))
parts_high k served o other =
    let P : Bool → Type 0 = λ b. (b ≡ (o == 33)) → RowParts k served o (restored (cond b (swapped k) k) (o - 33)) in
    let both : (b : Bool) → P b = λ b. elim b as P [
      | true ↦ λ e.
          let same = restored_parts (swapped k) (o - 33) k.next in
          record { times = same.times; owners = same.owners; held = same.held ∙ ap (λ t. cond t k.next k.held) e; next = same.next ∙ sym (ap (λ t. cond t (owner_at k served) k.next) other) }
      | false ↦ λ e.
          let same = restored_parts k (o - 33) k.held in
          record { times = same.times; owners = same.owners; held = same.held ∙ ap (λ t. cond t k.next k.held) e; next = same.next ∙ sym (ap (λ t. cond t (owner_at k served) k.next) other) }
    ] in
    both (o == 33) refl

pub row_parts : (k : KernelState) (served o : ℕ) → RowParts k served o (kernel_row k served o)
unfolding kernel_row
row_parts k served o = elim (cases_lt o 33) [
  | inl low ↦
      let within : nat_lt o 33 ≡ true = lt-ltb o 33 low in
      rw within (parts_low k served o (ne_eqb o 33 (λ e. omega arith)))
  | inr high ↦ elim (cases_lt o 66) [
    | inl copying ↦
        let past : nat_lt o 33 ≡ false = le-ltb o 33 high in
        let within : nat_lt o 66 ≡ true = lt-ltb o 66 copying in
        rw (past, within) (parts_high k served o (ne_eqb o 0 (λ e. omega arith)))
    | inr still ↦
        let past : nat_lt o 33 ≡ false = le-ltb o 33 high in
        let out : nat_lt o 66 ≡ false = le-ltb o 66 still in
        let no_latch : (o == 0) ≡ false = ne_eqb o 0 (λ e. omega arith) in
        let no_swap : (o == 33) ≡ false = ne_eqb o 33 (λ e. omega arith) in
        rw (past, out) (record { times = refl; owners = refl; held = sym (ap (λ t. cond t k.next k.held) no_swap); next = sym (ap (λ t. cond t (owner_at k served) k.next) no_latch) })
  ]
]
