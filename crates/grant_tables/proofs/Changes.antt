-- What a slot does to a grant: it begins in the slot, or ends in it, or stays as it is.
use Rattle.std.proofs.Common.{◌≡◌, ℕ, ◌+◌, ◌==◌, ◌&&◌, ◌⊎◌, true, false, nat_lt, Option, Some, None, inl, inr, arith}
use Rattle.std.specs.Option.{option_map_or}
use Rattle.std.proofs.lemmas.Bool.{cases_Bool, false≢true}
use Rattle.std.proofs.lemmas.Bool.Decides.{nat_tests}
use Rattle.bundle_model.specs.declared.world.Grant.{Grant}
use Rattle.bundle_model.specs.Grants.{lasts_to, stands_at}
use Rattle.grant_tables.specs.Turns.{ends_in, begins_in}

ends_stood : (slot start : ℕ) (end : Option ℕ) → option_map_or (λ e. e == slot && nat_lt start e) end false ≡ true → (nat_lt start slot && lasts_to slot end) ≡ true
ends_stood slot start None ends = absurd (false≢true ends)
ends_stood slot start (Some end) ends = grind (arith, nat_tests)

-- a grant that ends in a slot stood at its beginning
pub ended_stood : (slot : ℕ) (grant : Grant) → ends_in slot grant ≡ true → stands_at slot grant ≡ true
ended_stood slot grant ends = ends_stood slot grant.start grant.end ends

ends_after : (slot start : ℕ) (end : Option ℕ) → option_map_or (λ e. e == slot && nat_lt start e) end false ≡ true → (nat_lt start (slot + 1) && lasts_to (slot + 1) end) ≡ false
ends_after slot start None ends = absurd (false≢true ends)
ends_after slot start (Some end) ends = grind (arith, nat_tests)

-- and doesn't stand after it
pub ended_gone : (slot : ℕ) (grant : Grant) → ends_in slot grant ≡ true → stands_at (slot + 1) grant ≡ false
ended_gone slot grant ends = ends_after slot grant.start grant.end ends

begins_after : (slot start : ℕ) (end : Option ℕ) → (start == slot && option_map_or (λ e. nat_lt slot e) end true) ≡ true → (nat_lt start (slot + 1) && lasts_to (slot + 1) end) ≡ true
begins_after slot start None begins = grind (arith, nat_tests)
begins_after slot start (Some end) begins = grind (arith, nat_tests)

-- one that begins in it stands after it
pub begun_stands : (slot : ℕ) (grant : Grant) → begins_in slot grant ≡ true → stands_at (slot + 1) grant ≡ true
begun_stands slot grant begins = begins_after slot grant.start grant.end begins

begins_before : (slot start : ℕ) (end : Option ℕ) → (start == slot && option_map_or (λ e. nat_lt slot e) end true) ≡ true → (nat_lt start slot && lasts_to slot end) ≡ false
begins_before slot start None begins = grind (arith, nat_tests)
begins_before slot start (Some end) begins = grind (arith, nat_tests)

-- and doesn't stand before
pub begun_late : (slot : ℕ) (grant : Grant) → begins_in slot grant ≡ true → stands_at slot grant ≡ false
begun_late slot grant begins = begins_before slot grant.start grant.end begins

stays_after : (slot start : ℕ) (end : Option ℕ) → (nat_lt start slot && lasts_to slot end) ≡ true → option_map_or (λ e. e == slot && nat_lt start e) end false ≡ false → (nat_lt start (slot + 1) && lasts_to (slot + 1) end) ≡ true
stays_after slot start None stands stays = grind (arith, nat_tests)
stays_after slot start (Some end) stands stays = grind (arith, nat_tests)

-- one that stands and doesn't end in it stands after it
pub stays_stands : (slot : ℕ) (grant : Grant) → stands_at slot grant ≡ true → ends_in slot grant ≡ false → stands_at (slot + 1) grant ≡ true
stays_stands slot grant stands stays = stays_after slot grant.start grant.end stands stays

stood_or : (slot start : ℕ) (end : Option ℕ) → (nat_lt start (slot + 1) && lasts_to (slot + 1) end) ≡ true → (nat_lt start slot && lasts_to slot end) ≡ false → (start == slot && option_map_or (λ e. nat_lt slot e) end true) ≡ true
stood_or slot start None stands late = grind (arith, nat_tests)
stood_or slot start (Some end) stands late = grind (arith, nat_tests)

-- one that stands after it stood before, or begins in it
pub stood_begins : (slot : ℕ) (grant : Grant) → stands_at (slot + 1) grant ≡ true → (stands_at slot grant ≡ true) ⊎ (begins_in slot grant ≡ true)
stood_begins slot grant stands = elim (cases_Bool (stands_at slot grant)) [
  | inl stood ↦ inl stood
  | inr late ↦ inr (stood_or slot grant.start grant.end stands late)
]

-- at the first slot none stands
pub none_stands : (grant : Grant) → stands_at 0 grant ≡ false
none_stands grant = grind (arith, nat_tests)
