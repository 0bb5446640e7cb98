-- The offset and the instance of a later cycle.
use Rattle.std.proofs.Common.{◌≡◌, ℕ, ◌+◌, ◌*◌, ◌/◌, ◌%◌, ◌<◌, ◌≤◌, ◌⊎◌, ap, ◌∙◌, inl, inr, arith}
use Rattle.std.proofs.lemmas.Bool.{cases_lt}
use Rattle.std.proofs.lemmas.Nat.{div-add-mod', div-mul-add, mod-mul-add, mod_below}
use Rattle.soc_base.specs.Time.{FrameTimes, instance_cycles, instance_at, offset_at}
use Rattle.soc_base.specs.Frame.{IsFrame}

-- within an instance
pub inside : (len c n : ℕ) → c % len + n < len → ((c + n) / len ≡ c / len) × ((c + n) % len ≡ c % len + n)
inside len c n low =
    let split : c + n ≡ c / len * len + (c % len + n) = omega (arith, div-add-mod' c len) in (
      ap (λ n. n / len) split ∙ div-mul-add (c / len) len (c % len + n) low,
      ap (λ n. n % len) split ∙ mod-mul-add (c / len) len (c % len + n) low,
    )

-- at the end of one
pub around : (len c n : ℕ) → 0 < len → c % len + n ≡ len → ((c + n) / len ≡ c / len + 1) × ((c + n) % len ≡ 0)
around len c n some last =
    let split : c + n ≡ (c / len + 1) * len + 0 = omega (arith, div-add-mod' c len) in (
      ap (λ n. n / len) split ∙ div-mul-add (c / len + 1) len 0 some,
      ap (λ n. n % len) split ∙ mod-mul-add (c / len + 1) len 0 some,
    )

-- the next cycle is in the same instance, or begins one
pub next_cycle : (f : FrameTimes) (cycle : ℕ) → IsFrame f → ((instance_at f (cycle + 1) ≡ instance_at f cycle) × (offset_at f (cycle + 1) ≡ offset_at f cycle + 1)) ⊎ ((66 ≤ offset_at f cycle) × (offset_at f (cycle + 1) ≡ 0))
next_cycle f cycle frame =
    let len = instance_cycles f in
    let least = frame.kernel_least in
    let some = frame.partition_least in
    let low : cycle % len < len = mod_below cycle len (omega arith) in
    elim (cases_lt (cycle % len + 1) len) [
      | inl more ↦ inl (inside len cycle 1 more)
      | inr last ↦ inr (omega arith, (around len cycle 1 (omega arith) (omega arith)).1)
    ]

pub next_offset : (f : FrameTimes) (cycle : ℕ) → IsFrame f → (offset_at f (cycle + 1) ≡ offset_at f cycle + 1) ⊎ ((66 ≤ offset_at f cycle) × (offset_at f (cycle + 1) ≡ 0))
next_offset f cycle frame = elim (next_cycle f cycle frame) [ inl same ↦ inl same.1 | inr begins ↦ inr begins ]

-- a cycle is its offset past the beginning of its instance
pub cycle_split : (f : FrameTimes) (cycle : ℕ) → instance_at f cycle * instance_cycles f + offset_at f cycle ≡ cycle
cycle_split f cycle = div-add-mod' cycle (instance_cycles f)
